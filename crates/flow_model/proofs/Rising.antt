-- Lists that strictly rise, and lists that are sorted and of which each item is left once.
use Rattle.std.proofs.Common.{◌≡◌, ◌⊎◌, inl, inr, zero, suc, List, [], ◌∷◌, Contains, refl, sym, ◌∙◌, ap₂, subst, arith}
use Rattle.std.specs.Cmp.{IsTotalOrder}
use Rattle.std.specs.declared.cmp.Ordering.{Ordering}
use Rattle.std.specs.declared.cmp.Ordering.TheVariants.{Less}
use Rattle.std.specs.List.Sorted.{IsStrictlySortedBy}
use Rattle.std.proofs.lemmas.List.Elements.{All-from_recursion}
use Rattle.flow_model.specs.Order.{StrictlyRise}
pub use Rattle.dm_base.proofs.Orders.{is_first, is_later}
pub use Rattle.flow_model.proofs.EquivalenceLemmas.{tied}
use Rattle.flow_model.proofs.PairsLemmas.{of_all}
pub use Rattle.flow_model.proofs.PairsLemmas.{all_from, pairs_cons, pairs_head, pairs_tail, pairs_nil}

pub cons_cases : {X : Type 0} (x : X) (xs : List X) (z : X) → Contains (x ∷ xs) z → (x ≡ z) ⊎ Contains xs z
cons_cases x xs z (zero, lt, is) = inl is
cons_cases x xs z (suc k, lt, is) = inr (k, omega arith, is)

-- a strictly sorted list rises
pub rises : {X : Type 0} (order : X → X → Ordering) (xs : List X) → IsStrictlySortedBy order xs → StrictlyRise order xs
unfolding IsStrictlySortedBy
rises order [] h = pairs_nil (λ x y. order x y ≡ Less)
rises order (x ∷ xs) h = pairs_cons (λ x y. order x y ≡ Less) x xs (of_all (λ y. order x y ≡ Less) xs (All-from_recursion (λ y. order x y ≡ Less) xs h.0)) (rises order xs h.1)

-- two lists that strictly rise and have the same items are one
module _ {X : Type 0} (order : X → X → Ordering) (total : IsTotalOrder order) where
  apart : (x y : X) → order x y ≡ Less → order y x ≡ Less → ⊥
  apart x y less back = let other = total.antisymm x y in cc

  -- the first items are the same, since each is before all others
  heads : (x y : X) (xs ys : List X) → StrictlyRise order (x ∷ xs) → StrictlyRise order (y ∷ ys) → ((z : X) → Contains (x ∷ xs) z → Contains (y ∷ ys) z) → ((z : X) → Contains (y ∷ ys) z → Contains (x ∷ xs) z) → x ≡ y
  heads x y xs ys rise_x rise_y into back = elim (cons_cases y ys x (into x (is_first x xs))) as (λ _. x ≡ y) [
    | inl same ↦ sym same
    | inr after_y ↦ elim (cons_cases x xs y (back y (is_first y ys))) as (λ _. x ≡ y) [
      | inl same ↦ same
      | inr after_x ↦ absurd (apart x y (pairs_head (λ a b. order a b ≡ Less) x xs rise_x y after_x) (pairs_head (λ a b. order a b ≡ Less) y ys rise_y x after_y))
    ]
  ]

  tails : (x y : X) (xs ys : List X) → x ≡ y → StrictlyRise order (x ∷ xs) → ((z : X) → Contains (x ∷ xs) z → Contains (y ∷ ys) z) → (z : X) → Contains xs z → Contains ys z
  tails x y xs ys same rise into z has = elim (cons_cases y ys z (into z (is_later x xs z has))) as (λ _. Contains ys z) [
    | inl is ↦
        let before : order x z ≡ Less = pairs_head (λ a b. order a b ≡ Less) x xs rise z has in
        let self : order z z ≡ Less = subst (λ w. order w z ≡ Less) (same ∙ is) before in
        absurd (apart z z self self)
    | inr there ↦ there
  ]

  none_of_empty : (x : X) (xs : List X) → ((z : X) → Contains (x ∷ xs) z → Contains [] z) → ⊥
  none_of_empty x xs into = let none = into x (is_first x xs) in omega (arith, none.1)

  pub same_members : (xs ys : List X) → StrictlyRise order xs → StrictlyRise order ys → ((z : X) → Contains xs z → Contains ys z) → ((z : X) → Contains ys z → Contains xs z) → xs ≡ ys
  same_members [] [] rise_x rise_y into back = refl
  same_members [] (y ∷ ys) rise_x rise_y into back = absurd (none_of_empty y ys back)
  same_members (x ∷ xs) [] rise_x rise_y into back = absurd (none_of_empty x xs into)
  same_members (x ∷ xs) (y ∷ ys) rise_x rise_y into back =
      let same : x ≡ y = heads x y xs ys rise_x rise_y into back in
      ap₂ (λ z zs. z ∷ zs) same (same_members xs ys (pairs_tail (λ a b. order a b ≡ Less) x xs rise_x) (pairs_tail (λ a b. order a b ≡ Less) y ys rise_y)
      (tails x y xs ys same rise_x into) (tails y x ys xs (sym same) rise_y back))
