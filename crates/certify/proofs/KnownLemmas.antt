-- Sets of facts, and maps from activations.
use Rattle.std.proofs.Common.{◌≡◌, ◌⊎◌, ◌↔◌, ℕ, ◌+◌, ◌<◌, ◌≤◌, Bool, true, false, cond, ◌&&◌, ◌||◌, List, [], ◌∷◌, ◌++◌, length, take, get_or, Contains, Option, IsTrue, refl, sym, ◌∙◌, ap, subst, inl, inr, arith, nat_eq}
use Rattle.std.specs.List.{list_any}
use Rattle.std.proofs.lemmas.Bool.{eq-eqb, eqb-true}
use Rattle.std.proofs.lemmas.List.{take_all, get_or_default}
use Rattle.std.proofs.lemmas.List.Elements.{Contains-append_left, Contains-push, Contains-push_cases}
use Rattle.indexmap.specs.IndexSet.{insert_key}
use Rattle.certify_facts.specs.declared.fact.Fact.{Fact}
use Rattle.certify_facts.specs.declared.fact.Fact.TheVariants.{Callgraph, At, Link}
use Rattle.certify_facts.specs.contracts.fact.FactPartialEq.TheImpl.{eq-value as fact_eq}
use Rattle.certify_facts.specs.declared.fact.FactLine.{FactLine}
use Rattle.dm_base.specs.Adding.{Has}
use Rattle.certify_steps.proofs.AddingLemmas.{has_more}
use Rattle.certify_steps.proofs.ReadingLemmas.{Contains-cons, Contains-cons_cases, contains_none}
use Rattle.flow_model.proofs.BothLemmas.{both_true, both_hold}

same_number : (n : ℕ) → nat_eq n n ≡ true
same_number n = eq-eqb n n refl

pub fact_exact : (x y : Fact) → fact_eq.it x y ≡ true → x ≡ y
fact_exact (Callgraph k v) (Callgraph k' v') e =
    let (p, q) = both_true (nat_eq k k') (nat_eq v v') e in
    λ n. Callgraph (eqb-true k k' p n) (eqb-true v v' q n)
fact_exact (At k i f v) (At k' i' f' v') e =
    let (p, more) = both_true (nat_eq k k') (nat_eq i i' && (nat_eq f f' && nat_eq v v')) e in
    let (q, last) = both_true (nat_eq i i') (nat_eq f f' && nat_eq v v') more in
    let (r, s) = both_true (nat_eq f f') (nat_eq v v') last in
    λ n. At (eqb-true k k' p n) (eqb-true i i' q n) (eqb-true f f' r n) (eqb-true v v' s n)
fact_exact (Link i f j h s) (Link i' f' j' h' s') e =
    let (p, more) = both_true (nat_eq i i') (nat_eq f f' && (nat_eq j j' && (nat_eq h h' && nat_eq s s'))) e in
    let (q, rest) = both_true (nat_eq f f') (nat_eq j j' && (nat_eq h h' && nat_eq s s')) more in
    let (r, last) = both_true (nat_eq j j') (nat_eq h h' && nat_eq s s') rest in
    let (u, v) = both_true (nat_eq h h') (nat_eq s s') last in
    λ n. Link (eqb-true i i' p n) (eqb-true f f' q n) (eqb-true j j' r n) (eqb-true h h' u n) (eqb-true s s' v n)
fact_exact (Callgraph k v) (At k' i' f' v') e = absurd cc
fact_exact (Callgraph k v) (Link i' f' j' h' s') e = absurd cc
fact_exact (At k i f v) (Callgraph k' v') e = absurd cc
fact_exact (At k i f v) (Link i' f' j' h' s') e = absurd cc
fact_exact (Link i f j h s) (Callgraph k' v') e = absurd cc
fact_exact (Link i f j h s) (At k' i' f' v') e = absurd cc

pub fact_same : (x : Fact) → fact_eq.it x x ≡ true
fact_same (Callgraph k v) = both_hold (nat_eq k k) (nat_eq v v) (same_number k) (same_number v)
fact_same (At k i f v) =
    both_hold (nat_eq k k) (nat_eq i i && (nat_eq f f && nat_eq v v)) (same_number k) (both_hold (nat_eq i i) (nat_eq f f && nat_eq v v) (same_number i) (both_hold (nat_eq f f) (nat_eq v v) (same_number f) (same_number v)))
fact_same (Link i f j h s) =
    both_hold (nat_eq i i) (nat_eq f f && (nat_eq j j && (nat_eq h h && nat_eq s s))) (same_number i)
    (both_hold (nat_eq f f) (nat_eq j j && (nat_eq h h && nat_eq s s)) (same_number f) (both_hold (nat_eq j j) (nat_eq h h && nat_eq s s) (same_number j) (both_hold (nat_eq h h) (nat_eq s s) (same_number h) (same_number s))))

pub equal_is : (x y : Fact) (b : Bool) → b ≡ fact_eq.it x y → IsTrue b ↔ (x ≡ y)
equal_is x y b is = (λ yes. fact_exact x y (sym is ∙ yes), λ same. is ∙ subst (λ z. fact_eq.it x z ≡ true) same (fact_same x))

-- A test that tells just equal keys.
module _ {K : Type 0} (eq : K → K → Bool) (exact : (x y : K) → eq x y ≡ true → x ≡ y) (same : (x : K) → eq x x ≡ true) where
  any_cons : (b c : Bool) → (b ≡ true) ⊎ (c ≡ true) → (b || c) ≡ true
  any_cons true c s = refl
  any_cons false c (inl e) = absurd cc
  any_cons false c (inr e) = e

  any_split : (b c : Bool) → (b || c) ≡ true → (b ≡ true) ⊎ (c ≡ true)
  any_split true c e = inl refl
  any_split false c e = inr e

  pub any_contains : (xs : List K) (x : K) → (list_any (eq x) xs ≡ true) ↔ Contains xs x
  any_contains [] x = (λ e. absurd cc, λ has. absurd (contains_none x has))
  any_contains (y ∷ ys) x = (
    λ e. elim (any_split (eq x y) (list_any (eq x) ys) e) as (λ _. Contains (y ∷ ys) x) [
      | inl here ↦ (0, omega arith, sym (exact x y here))
      | inr more ↦ Contains-cons y x ys ((any_contains ys x).0 more)
    ],
    λ has. elim (Contains-cons_cases y x ys has) as (λ _. list_any (eq x) (y ∷ ys) ≡ true) [
      | inl e ↦ any_cons (eq x y) (list_any (eq x) ys) (inl (ap (eq x) e ∙ same x))
      | inr more ↦ any_cons (eq x y) (list_any (eq x) ys) (inr ((any_contains ys x).1 more))
    ],
  )

  add_by : (b : Bool) (old : List K) (x y : K) → list_any (eq x) old ≡ b → Contains (cond b old (old ++ x ∷ [])) y ↔ (Contains old y ⊎ (y ≡ x))
  add_by true old x y is = (
    λ has. inl has,
    λ s. elim s as (λ _. Contains old y) [ inl has ↦ has | inr e ↦ subst (Contains old) (sym e) ((any_contains old x).0 is) ],
  )
  add_by false old x y is = (
    λ has. elim (Contains-push_cases old x y has) as (λ _. Contains old y ⊎ (y ≡ x)) [ inl was ↦ inl was | inr e ↦ inr (sym e) ],
    λ s. elim s as (λ _. Contains (old ++ x ∷ []) y) [ inl was ↦ Contains-append_left old (x ∷ []) y was | inr e ↦ subst (Contains (old ++ x ∷ [])) (sym e) (Contains-push old x) ],
  )

  -- a key that is inserted
  pub key_added : (old new : List K) (x y : K) → new ≡ insert_key eq old x → Contains new y ↔ (Contains old y ⊎ (y ≡ x))
  key_added old new x y is = subst (λ ks. Contains ks y ↔ (Contains old y ⊎ (y ≡ x))) (sym is) (add_by (list_any (eq x) old) old x y refl)

  -- What a map has at a key, before and after a change at one key.
  module _ {V : Type 0} (old new : K → Option V) (k : K) (w : Option V) (updates : (q : K) → new q ≡ cond (eq k q) w (old q)) where
    at_other : (q : K) (b : Bool) → eq k q ≡ b → (q ≡ k → ⊥) → cond b w (old q) ≡ old q
    at_other q true is differ = absurd (differ (sym (exact k q is)))
    at_other q false is differ = refl

    pub other_key : (q : K) → (q ≡ k → ⊥) → new q ≡ old q
    other_key q differ = updates q ∙ at_other q (eq k q) refl differ

    pub this_key : new k ≡ w
    this_key = updates k ∙ ap (λ b. cond b w (old k)) (same k)

-- the facts of the lines, one line more
pub known_more : (old new : List Fact) (lines : List FactLine) (i : ℕ) (d : FactLine) → i < length lines → ((x : Fact) → Contains old x ↔ Has (λ l. x ≡ l.fact) (take i lines))
    → ((x : Fact) → Contains new x ↔ (Contains old x ⊎ (x ≡ (get_or lines i d).fact))) → (x : Fact) → Contains new x ↔ Has (λ l. x ≡ l.fact) (take (i + 1) lines)
known_more old new lines i d lt before added x =
    let more = has_more (λ (l : FactLine). x ≡ l.fact) lines i (get_or lines i d) lt (get_or_default lines i d (get_or lines i d) lt) in (
      λ has. more.1 (elim ((added x).0 has) as (λ _. Has (λ (l : FactLine). x ≡ l.fact) (take i lines) ⊎ (x ≡ (get_or lines i d).fact)) [ inl was ↦ inl ((before x).0 was) | inr same ↦ inr same ]),
      λ has. (added x).1 (elim (more.0 has) as (λ _. Contains old x ⊎ (x ≡ (get_or lines i d).fact)) [ inl was ↦ inl ((before x).1 was) | inr same ↦ inr same ]),
    )

pub known_all : (old : List Fact) (lines : List FactLine) (i : ℕ) → length lines ≤ i → ((x : Fact) → Contains old x ↔ Has (λ l. x ≡ l.fact) (take i lines)) → (x : Fact) → Contains old x ↔ Has (λ l. x ≡ l.fact) lines
known_all old lines i over is x = subst (λ ls. Contains old x ↔ Has (λ l. x ≡ l.fact) ls) (take_all i lines over) (is x)
