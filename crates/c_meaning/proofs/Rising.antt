-- A sorted list strictly rises.
use Rattle.std.proofs.Common.{◌≡◌, List, [], ◌∷◌, Contains, AllPairs, ◌⊎◌, inl, inr, ap, ◌∙◌, subst, refl, arith}
use Rattle.std.specs.Cmp.{IsTotalOrder}
use Rattle.std.specs.Ordering.{ordering_reverse}
use Rattle.std.specs.declared.cmp.Ordering.{Ordering}
use Rattle.std.specs.declared.cmp.Ordering.TheVariants.{Less, Equal, Greater}
use Rattle.c_meaning.specs.Sorted.{placed, insert, sorted}
use Rattle.c_meaning.proofs.SortedLemmas.{insert_from}
use Rattle.c_meaning.proofs.Members.{cases}
pub use Rattle.flow_model.proofs.PairsLemmas.{all_from, of_all, pairs_cons, pairs_head, pairs_tail, pairs_nil}

module _ {X : Type 0} (order : X → X → Ordering) (total : IsTotalOrder order) where
  abbrev Before : X → X → Type 0
  Before x y = order x y ≡ Less

  place_rises : (o : Ordering) (x y : X) (ys inside : List X) → order x y ≡ o → AllPairs Before (y ∷ ys) → AllPairs Before inside → ((z : X) → Contains inside z → (x ≡ z) ⊎ Contains ys z) → AllPairs Before (placed o x y ys inside)
  place_rises Less x y ys inside e rise new into = pairs_cons Before x (y ∷ ys) (λ z h. elim (cases y ys z h) as (λ k. order x z ≡ Less) [ inl is ↦ subst (λ z. order x z ≡ Less) is e | inr k ↦ total.trans x y z e (pairs_head Before y ys rise z k) ]) rise
  place_rises Equal x y ys inside e rise new into = rise
  place_rises Greater x y ys inside e rise new into =
      let before : order y x ≡ Less = total.antisymm y x ∙ ap ordering_reverse e in
      pairs_cons Before y inside (λ z h. elim (into z h) as (λ k. order y z ≡ Less) [ inl is ↦ subst (λ z. order y z ≡ Less) is before | inr k ↦ pairs_head Before y ys rise z k ]) new

  insert_rises : (x : X) (ys : List X) → AllPairs Before ys → AllPairs Before (insert order x ys)
  insert_rises x [] rise = pairs_cons Before x [] (λ z h. absurd (omega (arith, h.1))) rise
  insert_rises x (y ∷ ys) rise = place_rises (order x y) x y ys (insert order x ys) refl rise (insert_rises x ys (pairs_tail Before y ys rise)) (λ z h. insert_from order x ys z h)

  pub sorted_rises : (xs : List X) → AllPairs Before (sorted order xs)
  sorted_rises [] = pairs_nil Before
  sorted_rises (x ∷ xs) = insert_rises x (sorted order xs) (sorted_rises xs)
