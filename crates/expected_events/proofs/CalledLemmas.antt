-- The order of calls, and a list that is put in order and of which one of those that tie is left.
use Rattle.std.proofs.Common.{◌≡◌, ◌↔◌, Bool, true, List, [], ◌∷◌, Contains, refl, sym, ◌∙◌, subst, arith}
use Rattle.std.specs.Prelude.{AllPairs}
use Rattle.std.specs.Cmp.{IsTotalOrder, IsEquivalence}
use Rattle.std.specs.List.{dedup}
use Rattle.std.specs.List.Retain.{IsFiltered, DiffersFromLast}
use Rattle.std.specs.List.Sorted.{IsPermutation, IsSorted, IsStrictlySortedBy}
use Rattle.std.specs.Ordering.{eq_by_cmp, is_eq}
use Rattle.std.specs.declared.cmp.Ordering.{Ordering}
use Rattle.std.specs.declared.cmp.Ordering.TheVariants.{Less, Equal, Greater}
use Rattle.std.proofs.lemmas.List.Elements.{All-from_recursion}
use Rattle.std.proofs.lemmas.List.Filters.{dedup_is}
use Rattle.std.proofs.lemmas.List.Kept.{AllPairs-cons, Any-dedup, Contains-from_dedup, IsStrictlySortedBy-dedup}
use Rattle.std.proofs.lemmas.List.Sorted.{Contains-permutation, IsPermutation-sym}
use Rattle.dm_sets.specs.Nodes.{Nodes}
use Rattle.flow_model.specs.declared.records.SysEdge.{SysEdge}
use Rattle.flow_model.specs.Order.{StrictlyRise}
use Rattle.flow_model.proofs.OrderLemmas.{sys_edges_tie}
use Rattle.dm_base.specs.Adding.{Has}
use Rattle.expected_events.specs.declared.called.Called.{Called}
use Rattle.expected_events.specs.Marked.{IsCalledBy}
use Rattle.expected_events.specs.Next.{called_order}

-- the edge from node 0 to node 0 that reads the call
edge_of : Called → SysEdge
edge_of c = record { from = 0; name = c.name; to = 0; args = c.args }

-- the order ties just what is equal
pub called_tie : (c d : Called) → called_order c d ≡ Equal → c ≡ d
unfolding edge_of
called_tie c d tie =
    let same : edge_of c ≡ edge_of d = (sys_edges_tie (edge_of c) (edge_of d)).0 tie in
    λ i. record { name = (same i).name; args = (same i).args }

equal_from_is : (o : Ordering) → is_eq o ≡ true → o ≡ Equal
equal_from_is Less e = absurd cc
equal_from_is Equal e = refl
equal_from_is Greater e = absurd cc

module _ {X : Type 0} {R : X → X → Ordering} (total : IsTotalOrder R) {E : X → X → Bool} (ties : (x y : X) → E x y ≡ eq_by_cmp R x y) (laws : IsEquivalence E) where
  pairs_from_sorted : (xs : List X) → IsStrictlySortedBy R xs → AllPairs (λ x y. R x y ≡ Less) xs
  unfolding IsStrictlySortedBy
  pairs_from_sorted [] sorted = λ i j d lt within. absurd (omega (arith, within))
  pairs_from_sorted (x ∷ xs) sorted = AllPairs-cons (λ x y. R x y ≡ Less) x xs (All-from_recursion (λ y. R x y ≡ Less) xs sorted.0) (pairs_from_sorted xs sorted.1)

  module _ (old sorted new : List X) (moved : IsPermutation old sorted) (left : IsFiltered (DiffersFromLast E) [] sorted new) where
    is : new ≡ dedup E sorted
    is = dedup_is E sorted new left

    pub ordered_rise : IsSorted R sorted → StrictlyRise R new
    ordered_rise rises = subst (StrictlyRise R) (sym is) (pairs_from_sorted (dedup E sorted) (IsStrictlySortedBy-dedup total ties sorted rises))

    pub ordered_only : (x : X) → Contains new x → Contains old x
    ordered_only x has = Contains-permutation sorted old x (IsPermutation-sym old sorted moved) (Contains-from_dedup E sorted x (subst (λ xs. Contains xs x) is has))

    pub ordered_all : (x : X) → Contains old x → (y : X) × Contains new y × (R x y ≡ Equal)
    ordered_all x has =
        let (k, y, lt, at, tied) = Any-dedup laws sorted x (Contains-permutation old sorted x moved has) in
        (y, subst (λ xs. Contains xs y) (sym is) (k, lt, at), equal_from_is (R x y) (sym (ties x y) ∙ tied))

-- the calls stay the same ones when they are put in order
pub calls_ordered : (at : Nodes) (sys : List SysEdge) (old new : List Called) → ((c : Called) → Contains old c ↔ Has (IsCalledBy at c) sys) → ((c : Called) → Contains new c → Contains old c) → ((c : Called) → Contains old c → (d : Called) × Contains new d × (called_order c d ≡ Equal))
    → (c : Called) → Contains new c ↔ Has (IsCalledBy at c) sys
calls_ordered at sys old new exact only all c = (
  λ has. (exact c).0 (only c has),
  λ is. let (d, has, tie) = all c ((exact c).1 is) in subst (Contains new) (sym (called_tie c d tie)) has,
)
