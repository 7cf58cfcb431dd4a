-- A list that is sorted, and of which each item is left once, is the list of its items in order.
use Rattle.std.proofs.Common.{◌≡◌, ◌↔◌, List, Contains, sym, subst}
use Rattle.std.specs.Cmp.{IsTotalOrder}
use Rattle.std.specs.declared.cmp.Ordering.{Ordering}
use Rattle.std.specs.declared.cmp.Ordering.TheVariants.{Equal}
use Rattle.flow_model.specs.Order.{StrictlyRise}
use Rattle.c_meaning.specs.Sorted.{sorted}
use Rattle.c_meaning.proofs.SortedLemmas.{sorted_from, sorted_has}
use Rattle.c_meaning.proofs.Rising.{sorted_rises}
use Rattle.flow_model.proofs.Rising.{same_members}
pub use Rattle.flow_model.proofs.Rising.{rises, tied}

module _ {X : Type 0} (order : X → X → Ordering) (total : IsTotalOrder order) where
  -- where the order ties only what is equal
  pub ordered : ((x y : X) → order x y ≡ Equal ↔ x ≡ y) → (old new : List X) → StrictlyRise order new → ((x : X) → Contains new x → Contains old x) → ((x : X) → Contains old x → (y : X) × Contains new y × (order x y ≡ Equal)) → new ≡ sorted order old
  ordered tie old new rise from all =
      same_members order total new (sorted order old) rise (sorted_rises order total old)
      (λ z has. sorted_has order old (λ x y h k e. (tie x y).0 e) z (from z has))
      (λ z has. let (y, there, same) = all z (sorted_from order old z has) in subst (Contains new) (sym ((tie z y).0 same)) there)
