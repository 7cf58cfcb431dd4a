-- Parts that are checked in turn, where what they give is put behind what was given before.
use Rattle.std.proofs.Common.{◌≡◌, List, [], ◌∷◌, ◌++◌, refl, ap, sym, subst, ◌∙◌}
use Rattle.c_check_units.specs.CheckError.{CheckError}
use Rattle.c_check_units.specs.Agreement.{Names}
use Rattle.c_check_units.proofs.Parts.{names_on, names_first}
use Rattle.c_rules.specs.Checked.{Fault, Checked, fine, faulty, faults, both, gives, Met, met}
use Rattle.c_check_scopes.proofs.NumberLemmas.{not_so}
use Rattle.c_rules.proofs.FineLemmas.{is_fine}

pub not_fine : {A : Type 0} (f : Fault) (fs : List Fault) (a : A) → faulty f fs ≡ fine a → ⊥
not_fine f fs a h = not_so (ap is_fine h)

abbrev value_or : {A : Type 0} → A → Checked A → A
value_or d (fine a) = a
value_or d (faulty f fs) = d

pub same_value : {A : Type 0} (a b : A) → fine a ≡ fine b → a ≡ b
same_value a b h = ap (value_or a) h

pub faults_given : {A B : Type 0} (r : Checked A) (f : A → B) → faults (gives r f) ≡ faults r
faults_given (fine a) f = refl
faults_given (faulty g gs) f = refl

pub given_twice : {A B C : Type 0} (r : Checked A) (f : A → B) (g : B → C) → gives (gives r f) g ≡ gives r (λ a. g (f a))
given_twice (fine a) f g = refl
given_twice (faulty x xs) f g = refl

module _ {A : Type 0} (join : A → A → A) where
  abbrev pub two : Checked A → Checked A → Checked A
  two p q = both p q (λ a b. fine (join a b))

  joined : (assoc : (a b c : A) → join (join a b) c ≡ join a (join b c)) (old mid : A) (p q : Checked A) → gives p (join old) ≡ fine mid → gives (two p q) (join old) ≡ gives q (join mid)
  joined assoc old mid (fine a) (fine b) h = ap fine (sym (assoc old a b) ∙ ap (λ x. join x b) (same_value (join old a) mid h))
  joined assoc old mid (fine a) (faulty g gs) h = refl
  joined assoc old mid (faulty f fs) q h = absurd (not_fine f fs mid h)

  -- one more part
  pub goes_on : (assoc : (a b c : A) → join (join a b) c ≡ join a (join b c)) (old mid : A) (all whole p q : Checked A) → all ≡ gives whole (join old) → whole ≡ two p q → gives p (join old) ≡ fine mid → all ≡ gives q (join mid)
  goes_on assoc old mid all whole p q before node step = before ∙ (ap (λ r. gives r (join old)) node ∙ joined assoc old mid p q step)

  -- a demand that fails in the next part
  pub fails : (e : CheckError) (old : A) (all whole p q : Checked A) → all ≡ gives whole (join old) → whole ≡ two p q → Names e (faults (gives p (join old))) → Names e (faults all)
  fails e old all whole p q before node h =
      let here : Names e (faults p) = subst (Names e) (faults_given p (join old)) h in
      let there : Names e (faults (gives (two p q) (join old))) = names_on e (two p q) (λ a. fine (join old a)) (names_first e p q (λ a b. fine (join a b)) here) in
      subst (λ r. Names e (faults r)) (sym (before ∙ ap (λ r. gives r (join old)) node)) there

  -- no part is left
  pub ends : (old none : A) (all whole : Checked A) → all ≡ gives whole (join old) → whole ≡ fine none → join old none ≡ old → all ≡ fine old
  ends old none all whole before node nil = before ∙ (ap (λ r. gives r (join old)) node ∙ ap fine nil)

-- ## Single members of a list

pub first_one : {B : Type 0} (p : Checked B) (q : Checked (List B)) → both p q (λ m ms. fine (m ∷ ms)) ≡ both (gives p (λ m. m ∷ [])) q (λ a b. fine (a ++ b))
first_one (fine m) (fine ms) = refl
first_one (fine m) (faulty g gs) = refl
first_one (faulty f fs) q = refl

-- ## Demands alone

same_met : {A : Type 0} (a : A) (q : Checked Met) → both (fine a) q (λ _ _. fine met) ≡ q
same_met a (fine met) = refl
same_met a (faulty f fs) = refl

pub met_first : {A : Type 0} (p : Checked A) (a : A) (q : Checked Met) → p ≡ fine a → both p q (λ _ _. fine met) ≡ q
met_first p a q h = ap (λ r. both r q (λ _ _. fine met)) h ∙ same_met a q
