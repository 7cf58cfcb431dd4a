-- Sets of facts and of functions, in the order of their making.
use Rattle.std.proofs.Common.{◌≡◌, ◌⊎◌, ◌↔◌, ℕ, suc, Bool, true, false, cond, ◌&&◌, ◌||◌, List, [], ◌∷◌, Contains, refl, sym, ◌∙◌, ap, subst, inl, inr, arith, nat_eq, length}
use Rattle.std.specs.List.{list_any}
use Rattle.std.specs.Map.{keys_of}
use Rattle.std.specs.Cmp.{IsEquivalence}
use Rattle.std.specs.List.Retain.{IsFiltered, DiffersFromLast}
use Rattle.std.specs.List.Sorted.{IsPermutation}
use Rattle.std.proofs.lemmas.Cmp.{nat_eq_equiv}
use Rattle.std.proofs.lemmas.List.Filters.{dedup_is}
use Rattle.std.proofs.lemmas.List.Kept.{Contains-dedup, Contains-from_dedup}
use Rattle.std.proofs.lemmas.List.Sorted.{Contains-permutation, IsPermutation-sym}
use Rattle.std.proofs.lemmas.Bool.{eq-eqb, eqb-true}
use Rattle.slab.proofs.SlabLemmas.{Contains-cons, Contains-cons_cases}
use Rattle.stack_automaton.specs.declared.place.Place.{Place}
use Rattle.stack_automaton.specs.declared.place.Place.TheVariants.{Held, Entered}
use Rattle.stack_automaton.specs.declared.place.Fact.{Fact}
use Rattle.std.specs.Cmp.Lexicographic.{pointwise}
use Rattle.stack_automaton.specs.declared.place.Edge.{Edge}
use Rattle.stack_automaton.specs.contracts.place.EdgePartialEq.TheImpl.{eq-value as edge_eq}
use Rattle.stack_automaton.specs.contracts.place.PlacePartialEq.TheImpl.{eq-value as place_eq}
use Rattle.stack_automaton.specs.contracts.place.FactPartialEq.TheImpl.{eq-value as fact_eq}
use Rattle.dm_base.specs.Adding.{Gains}
use Rattle.flow_model.proofs.BothLemmas.{both_hold}
pub use Rattle.flow_model.proofs.BothLemmas.{both_true}

place_exact : (p q : Place) → place_eq.it p q ≡ true → p ≡ q
place_exact (Held a) (Held b) e = ap Held (eqb-true a b e)
place_exact (Held a) (Entered b) e = absurd cc
place_exact (Entered a) (Held b) e = absurd cc
place_exact (Entered a) (Entered b) e = ap Entered (eqb-true a b e)

place_same : (p : Place) → place_eq.it p p ≡ true
place_same (Held a) = eq-eqb a a refl
place_same (Entered a) = eq-eqb a a refl

pub fact_exact : (x y : Fact) → fact_eq.it x y ≡ true → x ≡ y
fact_exact x y e =
    let (node, place) = both_true (nat_eq x.node y.node) (place_eq.it x.place y.place) e in
    λ i. record { node = eqb-true x.node y.node node i; place = place_exact x.place y.place place i }

pub fact_same : (x : Fact) → fact_eq.it x x ≡ true
fact_same x = both_hold (nat_eq x.node x.node) (place_eq.it x.place x.place) (eq-eqb x.node x.node refl) (place_same x.place)

-- A test that tells just equal keys.
module _ {K : Type 0} (eq : K → K → Bool) (exact : (x y : K) → eq x y ≡ true → x ≡ y) (same : (x : K) → eq x x ≡ true) where
  any_cons : (b c : Bool) → (b ≡ true) ⊎ (c ≡ true) → (b || c) ≡ true
  any_cons true c s = refl
  any_cons false c (inl e) = absurd cc
  any_cons false c (inr e) = e

  any_split : (b c : Bool) → (b || c) ≡ true → (b ≡ true) ⊎ (c ≡ true)
  any_split true c e = inl refl
  any_split false c e = inr e

  pub any_contains : (xs : List K) (x : K) → (list_any (eq x) xs ≡ true) ↔ Contains xs x
  any_contains [] x = (λ e. absurd cc, λ has. absurd (omega (arith, has.1)))
  any_contains (y ∷ ys) x = (
    λ e. elim (any_split (eq x y) (list_any (eq x) ys) e) as (λ _. Contains (y ∷ ys) x) [
      | inl here ↦ (0, omega arith, sym (exact x y here))
      | inr more ↦ Contains-cons y x ys ((any_contains ys x).0 more)
    ],
    λ has. elim (Contains-cons_cases y x ys has) as (λ _. list_any (eq x) (y ∷ ys) ≡ true) [
      | inl e ↦ any_cons (eq x y) (list_any (eq x) ys) (inl (ap (eq x) e ∙ same x))
      | inr more ↦ any_cons (eq x y) (list_any (eq x) ys) (inr ((any_contains ys x).1 more))
    ],
  )

  still_there : (b c : Bool) → c ≡ true → cond b true c ≡ true
  still_there true c is = refl
  still_there false c is = is

  old_or_new : (old : List K) (x y : K) (b : Bool) → eq x y ≡ b → cond b true (list_any (eq y) old) ≡ true → Contains old y ⊎ (y ≡ x)
  old_or_new old x y true is there = inr (sym (exact x y is))
  old_or_new old x y false is there = inl ((any_contains old y).0 there)

  -- a key that is inserted into a set
  pub key_gained : (old new : List K) (x : K) → ((y : K) → list_any (eq y) new ≡ cond (eq x y) true (list_any (eq y) old)) → Gains (Contains old) (Contains new) (λ y. y ≡ x)
  key_gained old new x is y = (
    λ has. old_or_new old x y (eq x y) refl (sym (is y) ∙ (any_contains new y).1 has),
    λ s. elim s as (λ _. Contains new y) [
      | inl was ↦ (any_contains new y).0 (is y ∙ still_there (eq x y) (list_any (eq y) old) ((any_contains old y).1 was))
      | inr e ↦ (any_contains new y).0 (is y ∙ ap (λ b. cond b true (list_any (eq y) old)) (ap (eq x) e ∙ same x))
    ],
  )

-- the same at numbers
pub number_contains : (xs : List ℕ) (x : ℕ) → (list_any (nat_eq x) xs ≡ true) ↔ Contains xs x
number_contains = any_contains nat_eq (λ x y. eqb-true x y) (λ x. eq-eqb x x refl)

pub number_gained : (old new : List ℕ) (x : ℕ) → ((y : ℕ) → list_any (nat_eq y) new ≡ cond (nat_eq x y) true (list_any (nat_eq y) old)) → Gains (Contains old) (Contains new) (λ y. y ≡ x)
number_gained = key_gained nat_eq (λ x y. eqb-true x y) (λ x. eq-eqb x x refl)

-- as many functions as entries
pub length_keys : {K X : Type 0} (es : List (K × X)) → length es ≡ length (keys_of es)
length_keys [] = refl
length_keys (e ∷ es) = ap suc (length_keys es)

-- Lists of edges that a test finds equal.
edge_exact : (x y : Edge) → edge_eq.it x y ≡ true → x ≡ y
edge_exact x y e =
    let (label, to) = both_true (nat_eq x.label y.label) (nat_eq x.to y.to) e in
    λ i. record { label = eqb-true x.label y.label label i; to = eqb-true x.to y.to to i }

pub edges_exact : (xs ys : List Edge) → pointwise edge_eq.it xs ys ≡ true → xs ≡ ys
edges_exact [] [] e = refl
edges_exact [] (y ∷ ys) e = absurd cc
edges_exact (x ∷ xs) [] e = absurd cc
edges_exact (x ∷ xs) (y ∷ ys) e =
    let (first, rest) = both_true (edge_eq.it x y) (pointwise edge_eq.it xs ys) e in
    λ i. edge_exact x y first i ∷ edges_exact xs ys rest i

edge_laws : IsEquivalence edge_eq.it
edge_laws = record {
  refl = λ x. both_hold (nat_eq x.label x.label) (nat_eq x.to x.to) (eq-eqb x.label x.label refl) (eq-eqb x.to x.to refl);
  symm = λ x y. λ i. nat_eq_equiv.symm x.label y.label i && nat_eq_equiv.symm x.to y.to i;
  congr = λ x y z e. ap (λ w. edge_eq.it w z) (edge_exact x y e);
}

-- edges that are put in order, and of which each is left once
pub edges_in_order : (xs ys zs : List Edge) → IsPermutation xs ys → IsFiltered (DiffersFromLast edge_eq.it) [] ys zs → (e : Edge) → Contains zs e ↔ Contains xs e
edges_in_order xs ys zs sorted left e =
    let is = dedup_is edge_eq.it ys zs left in (
      λ has. Contains-permutation ys xs e (IsPermutation-sym xs ys sorted) (Contains-from_dedup edge_eq.it ys e (subst (λ es. Contains es e) is has)),
      λ has. subst (λ es. Contains es e) (sym is) (Contains-dedup edge_laws edge_exact ys e (Contains-permutation xs ys e sorted has)),
    )
