-- Parts that are checked one after another, and what their faults are.
use Rattle.std.proofs.Common.{◌≡◌, [], ◌∷◌, ◌++◌, refl, ap, sym, subst, ◌∙◌, append_assoc}
use Rattle.c_check_declarations.specs.CheckError.{CheckError}
use Rattle.c_check_declarations.specs.Agreement.{Names}
use Rattle.c_check_declarations.proofs.Parts.{named_left}
use Rattle.c_rules.specs.Checked.{Checked, fine, faulty, faults, all_three, beside, both, Two}
pub use Rattle.c_check_expressions.proofs.InitLemmas.{faulty_not_fine}

pub fine_same : {A : Type 0} (a b : A) → fine a ≡ fine b → a ≡ b
fine_same a b h = cc

-- ## Faults

pub faults_both : {A B C : Type 0} (p : Checked A) (q : Checked B) (f : A → B → C) → faults (both p q (λ a b. fine (f a b))) ≡ faults p ++ faults q
faults_both (fine a) (fine b) f = refl
faults_both (fine a) (faulty g gs) f = refl
faults_both (faulty g gs) q f = refl

pub faults_three : {A B C D : Type 0} (p : Checked A) (q : Checked B) (r : Checked C) (f : A → B → C → D) → faults (all_three p q r (λ a b c. fine (f a b c))) ≡ faults p ++ (faults q ++ faults r)
faults_three p q r f =
    faults_both p (beside q r) (λ a t. f a t.first t.second) ∙ ap (λ z. faults p ++ z) (faults_both q r (λ a b. record { first = a; second = b }))

-- a demand that fails in the first two of three parts
pub names_of_three : {A B C D E : Type 0} (e : CheckError) (p : Checked A) (q : Checked B) (r : Checked C) (g : A → B → E) (f : A → B → C → D) → Names e (faults (both p q (λ a b. fine (g a b)))) → Names e (faults (all_three p q r (λ a b c. fine (f a b c))))
names_of_three e p q r g f h =
    let two : Names e (faults p ++ faults q) = subst (Names e) (faults_both p q g) h in
    subst (Names e) (append_assoc (faults p) (faults q) (faults r) ∙ sym (faults_three p q r f)) (named_left e (faults p ++ faults q) (faults r) two)

-- a demand that fails in two parts, whatever they give
pub names_of_two : {A B D E : Type 0} (e : CheckError) (p : Checked A) (q : Checked B) (g : A → B → E) (f : A → B → D) → Names e (faults (both p q (λ a b. fine (g a b)))) → Names e (faults (both p q (λ a b. fine (f a b))))
names_of_two e p q g f h = subst (Names e) (faults_both p q g ∙ sym (faults_both p q f)) h

-- ## Parts that are fine

first_same : {A B : Type 0} (s t : Two A B) → fine s ≡ fine t → s.first ≡ t.first
first_same s t h = ap (λ u. u.first) (fine_same s t h)

second_same : {A B : Type 0} (s t : Two A B) → fine s ≡ fine t → s.second ≡ t.second
second_same s t h = ap (λ u. u.second) (fine_same s t h)

pub two_as : {A B C : Type 0} (p : Checked A) (q : Checked B) (k : A → B → Checked C) (t : Two A B) → beside p q ≡ fine t → both p q k ≡ k t.first t.second
two_as (fine x) (fine y) k t h =
    let s : Two _ _ = record { first = x; second = y } in
    λ i. k (first_same s t h i) (second_same s t h i)
two_as (fine x) (faulty g gs) k t h = absurd (faulty_not_fine g gs t h)
two_as (faulty g gs) (fine y) k t h = absurd (faulty_not_fine g (gs ++ []) t h)
two_as (faulty g gs) (faulty f fs) k t h = absurd (faulty_not_fine g (gs ++ f ∷ fs) t h)
