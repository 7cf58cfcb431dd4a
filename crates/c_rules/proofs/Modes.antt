-- The two modes side by side: what is fine in a plain unit is fine in an instrumented one and gives the same.
use Rattle.std.proofs.Common.{◌≡◌, ℕ, ◌<◌, ◌≤◌, Bool, true, false, cond, List, [], ◌∷◌, Some, refl, ap, sym, subst, arith, nat_lt}
use Rattle.std.proofs.lemmas.Bool.Decides.{Decides-ltb}
use Rattle.c_tree.specs.Mode.{Mode}
use Rattle.c_tree.specs.Mode.TheVariants.{Plain, Instrumented}
use Rattle.c_rules.specs.Checked.{Checked, fine, faulty, on, both, beside, all_three, gives, demand, and_also, Met, met, fails_with, parts_first}
use Rattle.c_rules.specs.Names.{Name, is_reserved}
use Rattle.std.specs.Prelude.{bytes_eq}
use Rattle.c_rules.specs.Scopes.{Env, Binding, Meaning, lookup, with_name, meaning_or_unknown}

-- what is fine on the left is fine on the right and gives the same, and a further fact holds then
abbrev pub LeadsTo : {A : Type 0} → Type 0 → Checked A → Checked A → Type 0
LeadsTo P (fine a) s = (s ≡ fine a) × P
LeadsTo P (faulty f fs) s = Unit {0}

abbrev pub Leads : {A : Type 0} → Checked A → Checked A → Type 0
Leads r s = LeadsTo (Unit {0}) r s

pub same_leads : {A : Type 0} (r : Checked A) → Leads r r
same_leads (fine a) = (refl, tt)
same_leads (faulty f fs) = tt

pub fine_leads : {A : Type 0} (r s : Checked A) (a : A) → Leads r s → r ≡ fine a → s ≡ fine a
fine_leads r s a h e = let k : Leads (fine a) s = subst (λ x. Leads x s) e h in k.0

pub fact : {A : Type 0} (P : Type 0) (r s : Checked A) (a : A) → LeadsTo P r s → r ≡ fine a → P
fact P r s a h e = let k : LeadsTo P (fine a) s = subst (λ x. LeadsTo P x s) e h in k.1

pub without : {A : Type 0} (P : Type 0) (r s : Checked A) → LeadsTo P r s → Leads r s
without P (fine a) s h = (h.0, tt)
without P (faulty f fs) s h = tt

pub with_fact : {A : Type 0} (P : Type 0) (r s : Checked A) → Leads r s → ((a : A) → r ≡ fine a → P) → LeadsTo P r s
with_fact P (fine a) s h k = (h.0, k a refl)
with_fact P (faulty f fs) s h k = tt

pub on_leads : {A B : Type 0} (r s : Checked A) (k l : A → Checked B) → Leads r s → ((a : A) → r ≡ fine a → Leads (k a) (l a)) → Leads (on r k) (on s l)
on_leads (fine a) s k l h t = subst (λ x. Leads (k a) (on x l)) (sym h.0) (t a refl)
on_leads (faulty f fs) s k l h t = tt

-- one rule on what leads
pub then_leads : {A B : Type 0} (r s : Checked A) (k : A → Checked B) → Leads r s → Leads (on r k) (on s k)
then_leads r s k h = on_leads r s k k h (λ a _. same_leads (k a))

pub both_leads : {A B C : Type 0} (p p' : Checked A) (q q' : Checked B) (k l : A → B → Checked C) → Leads p p' → ((a : A) → p ≡ fine a → Leads q q') → ((a : A) (b : B) → Leads (k a b) (l a b)) → Leads (both p q k) (both p' q' l)
both_leads (fine a) p' (fine b) q' k l g h t =
    subst (λ x. Leads (k a b) (both x q' l)) (sym g.0) (subst (λ y. Leads (k a b) (both (fine a) y l)) (sym (h a refl).0) (t a b))
both_leads a p' u q' k l g h t = tt

-- with one demand in place of what fails
pub alone_leads : {A : Type 0} (P : Type 0) (t u : Bool) (code at to : ℕ) (r s : Checked A) → LeadsTo P r s → LeadsTo P (fails_with t code at r) (fails_with u code to s)
alone_leads P t u code at to (fine a) s h = (ap (fails_with u code to) h.0, h.1)
alone_leads P true u code at to (faulty f fs) s h = tt
alone_leads P false u code at to (faulty f fs) s h = tt

-- beside the parts of a node
pub parts_first_leads : {A B D : Type 0} (P : Type 0) (q : Checked A) (u : Checked B) (r s : Checked D) → LeadsTo P r s → LeadsTo P (parts_first q r) (parts_first u s)
parts_first_leads P q u (fine d) s h = (ap (parts_first u) h.0, h.1)
parts_first_leads P (fine a) u (faulty f fs) s h = tt
parts_first_leads P (faulty g gs) u (faulty f fs) s h = tt

pub gives_leads : {A B : Type 0} (r s : Checked A) (f : A → B) → Leads r s → Leads (gives r f) (gives s f)
gives_leads r s f h = on_leads r s (λ a. fine (f a)) (λ a. fine (f a)) h (λ a _. (refl, tt))

pub all_three_lead : {A B C D : Type 0} (p p' : Checked A) (q q' : Checked B) (r r' : Checked C) (k l : A → B → C → Checked D) → Leads p p' → ((a : A) → p ≡ fine a → Leads q q') → ((a : A) (b : B) → p ≡ fine a → q ≡ fine b → Leads r r') → ((a : A) (b : B) (c : C) → Leads (k a b c) (l a b c)) → Leads (all_three p q r k) (all_three p' q' r' l)
all_three_lead p p' q q' r r' k l g h i t =
    both_leads p p' (beside q r) (beside q' r') (λ a x. k a x.first x.second) (λ a x. l a x.first x.second) g
    (λ a e. both_leads q q' r r' (λ b c. fine (record { first = b; second = c })) (λ b c. fine (record { first = b; second = c })) (h a e) (λ b d. i a b e d) (λ b c. (refl, tt)))
    (λ a x. t a x.first x.second)

-- a demand that holds where another one does
pub demand_leads : {A : Type 0} (t s : Bool) (code at : ℕ) (a : A) → (t ≡ true → s ≡ true) → Leads (demand t code at a) (demand s code at a)
demand_leads true s code at a h = (subst (λ x. demand x code at a ≡ fine a) (sym (h refl)) refl, tt)
demand_leads false s code at a h = tt

pub and_also_leads : (p p' q q' : Checked Met) → Leads p p' → Leads q q' → Leads (and_also p q) (and_also p' q')
and_also_leads p p' q q' g h = both_leads p p' q q' (λ _ _. fine met) (λ _ _. fine met) g (λ _ _. h) (λ _ _. (refl, tt))

-- the parts of what is fine are fine
pub first_fine : {A B C : Type 0} (p : Checked A) (q : Checked B) (k : A → B → Checked C) (c : C) → both p q k ≡ fine c → (a : A) × (b : B) × (p ≡ fine a) × (q ≡ fine b) × (k a b ≡ fine c)
first_fine (fine a) (fine b) k c e = (a, b, refl, refl, e)
first_fine p q k c e = cc

pub on_fine : {A B : Type 0} (r : Checked A) (k : A → Checked B) (b : B) → on r k ≡ fine b → (a : A) × (r ≡ fine a) × (k a ≡ fine b)
on_fine (fine a) k b e = (a, refl, e)
on_fine (faulty f fs) k b e = cc

pub demand_met : {A : Type 0} (t : Bool) (code at : ℕ) (a b : A) → demand t code at a ≡ fine b → t ≡ true
demand_met true code at a b e = refl
demand_met false code at a b e = cc

pub below_more : (n m k : ℕ) → m ≤ k → nat_lt n m ≡ true → nat_lt n k ≡ true
below_more n m k h e = (Decides-ltb n k).1 (let below : n < m = (Decides-ltb n m).0 e in omega (arith, below, h))

-- ## Scopes without reserved names

abbrev pub ArePlain : List Binding → Type 0
ArePlain [] = Unit {0}
ArePlain (b ∷ bs) = (is_reserved b.name ≡ false) × ArePlain bs

abbrev pub in_mode : Mode → Env → Env
in_mode m env = record env { whole = record env.whole { mode = m } }

-- names that aren't reserved mean the same
abbrev pub MeanAlike : List Binding → List Binding → Type 0
MeanAlike bs ns = (x : Name) → is_reserved x ≡ false → lookup ns x ≡ lookup bs x

-- what declarations of the instrumenter change
pub record More : Type 0 where
  pub names : List Binding
  pub functions : List Name
  pub tags : List Name

abbrev pub left : Env → Env
left env = in_mode Plain env

abbrev pub right : Env → More → Env
right env w = record env { whole = record env.whole { mode = Instrumented }; names = w.names; functions = w.functions; tags = w.tags }

-- a scope of a plain unit, and one of an instrumented unit
pub data Alike : Env → Env → Type 0 where
  alike : (env : Env) (w : More) → ArePlain env.names → MeanAlike env.names w.names → Alike (left env) (right env w)

-- behind a name that has the same meaning in both
pub named_alike : (e f : Env) → Alike e f → (x : Name) (r s : Checked Meaning) (n : Meaning) → is_reserved x ≡ false → r ≡ fine n → s ≡ fine n → Alike (with_name e x (meaning_or_unknown r)) (with_name f x (meaning_or_unknown s))
named_alike e f (alike env w p m) x r s n u g h =
    let c : Binding = record { name = x; depth = env.depth; means = n } in
    subst (λ y. Alike (with_name (left env) x (meaning_or_unknown y)) (with_name (right env w) x (meaning_or_unknown s))) (sym g)
    (subst (λ z. Alike (with_name (left env) x n) (with_name (right env w) x (meaning_or_unknown z))) (sym h) (alike (with_name env x n) (record w { names = c ∷ w.names }) (u, p) (λ y v. ap (cond (bytes_eq x y) (Some c)) (m y v))))

-- the same scopes in the two modes, where no name is reserved
pub data Twin : Env → Env → Type 0 where
  twin : (env : Env) → ArePlain env.names → Twin (in_mode Plain env) (in_mode Instrumented env)

pub twin_alike : (e f : Env) → Twin e f → Alike e f
twin_alike e f (twin env p) = alike env (record { names = env.names; functions = env.functions; tags = env.tags }) p (λ _ _. refl)

-- behind a name that has the same meaning in both
pub named_twin : (env : Env) (x : Name) (r s : Checked Meaning) (m : Meaning) → ArePlain env.names → is_reserved x ≡ false → r ≡ fine m → s ≡ fine m → Twin (with_name (in_mode Plain env) x (meaning_or_unknown r)) (with_name (in_mode Instrumented env) x (meaning_or_unknown s))
named_twin env x r s m p u g h =
    subst (λ y. Twin (with_name (in_mode Plain env) x (meaning_or_unknown y)) (with_name (in_mode Instrumented env) x (meaning_or_unknown s))) (sym g)
    (subst (λ z. Twin (with_name (in_mode Plain env) x m) (with_name (in_mode Instrumented env) x (meaning_or_unknown z))) (sym h) (twin (with_name env x m) (u, p)))

-- behind what is fine in both
pub leads_twin : {A : Type 0} (F G : Checked A → Env) (r s : Checked A) (a : A) → Leads r s → r ≡ fine a → Twin (F (fine a)) (G (fine a)) → Twin (F r) (G s)
leads_twin F G r s a h g t = subst (λ y. Twin (F y) (G s)) (sym g) (subst (λ z. Twin (F (fine a)) (G z)) (sym (fine_leads r s a h g)) t)

-- what is the same in both modes
pub twin_same : {A : Type 0} (F : Env → A) → ((env : Env) → F (in_mode Plain env) ≡ F (in_mode Instrumented env)) → (e f : Env) → Twin e f → F e ≡ F f
twin_same F h e f (twin env p) = h env
