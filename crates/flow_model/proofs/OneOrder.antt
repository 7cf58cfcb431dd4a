-- A list that strictly rises is the only such list of its items.
use Rattle.std.proofs.Common.{◌≡◌, ◌⊎◌, inl, inr, zero, suc, ◌<◌, List, [], ◌∷◌, length, refl, sym, ◌∙◌, ap₂, subst, arith}
use Rattle.std.specs.Prelude.{AllPairs, Contains, IsPermutation}
use Rattle.std.specs.declared.cmp.Ordering.{Ordering}
use Rattle.std.specs.declared.cmp.Ordering.TheVariants.{Less}
use Rattle.std.proofs.lemmas.List.Sorted.{Contains-permutation, IsPermutation-sym}
use Rattle.flow_model.specs.Order.{StrictlyRise}

Contains-cons_cases : {X : Type 0} (x : X) (xs : List X) (z : X) → Contains (x ∷ xs) z → (x ≡ z) ⊎ Contains xs z
Contains-cons_cases x xs z (zero, lt, is) = inl is
Contains-cons_cases x xs z (suc k, lt, is) = inr (k, omega arith, is)

Contains-cons_here : {X : Type 0} (x : X) (xs : List X) → Contains (x ∷ xs) x
Contains-cons_here x xs = (0, omega arith, refl)

Contains-cons_there : {X : Type 0} (x : X) (xs : List X) (z : X) → Contains xs z → Contains (x ∷ xs) z
Contains-cons_there x xs z (k, lt, is) = (suc k, omega arith, is)

AllPairs-head : {X : Type 0} (R : X → X → Type 0) (x : X) (xs : List X) → AllPairs R (x ∷ xs) → (z : X) → Contains xs z → R x z
AllPairs-head R x xs pairs z (k, lt, is) =
    let within : suc k < length (x ∷ xs) = omega arith in
    let below : 0 < suc k = omega arith in
    subst (λ y. R x y) is (pairs 0 (suc k) z below within)

AllPairs-tail : {X : Type 0} (R : X → X → Type 0) (x : X) (xs : List X) → AllPairs R (x ∷ xs) → AllPairs R xs
AllPairs-tail R x xs pairs i j d lt within =
    let below : suc i < suc j = omega arith in
    let here : suc j < length (x ∷ xs) = omega arith in
    pairs (suc i) (suc j) d below here

module _ {X : Type 0} (order : X → X → Ordering) (apart : (x y : X) → order x y ≡ Less → order y x ≡ Less → ⊥) where
  -- the first items are the same, since each is before all others
  heads : (x y : X) (xs ys : List X) → StrictlyRise order (x ∷ xs) → StrictlyRise order (y ∷ ys)
      → ((z : X) → Contains (x ∷ xs) z → Contains (y ∷ ys) z) → ((z : X) → Contains (y ∷ ys) z → Contains (x ∷ xs) z) → x ≡ y
  heads x y xs ys rise_x rise_y into back =
      elim (Contains-cons_cases y ys x (into x (Contains-cons_here x xs))) [
        | inl same ↦ sym same
        | inr after_y ↦ elim (Contains-cons_cases x xs y (back y (Contains-cons_here y ys))) [
          | inl same ↦ same
          | inr after_x ↦ absurd (apart x y (AllPairs-head (λ a b. order a b ≡ Less) x xs rise_x y after_x) (AllPairs-head (λ a b. order a b ≡ Less) y ys rise_y x after_y))
        ]
      ]

  -- what is in the one list past its first item is in the other
  tails : (x y : X) (xs ys : List X) → x ≡ y → StrictlyRise order (x ∷ xs)
      → ((z : X) → Contains (x ∷ xs) z → Contains (y ∷ ys) z) → (z : X) → Contains xs z → Contains ys z
  tails x y xs ys same rise into z has =
      elim (Contains-cons_cases y ys z (into z (Contains-cons_there x xs z has))) [
        | inl is ↦ let before : order x z ≡ Less = AllPairs-head (λ a b. order a b ≡ Less) x xs rise z has in
            let self : order z z ≡ Less = subst (λ w. order w z ≡ Less) (same ∙ is) before in
            absurd (apart z z self self)
        | inr there ↦ there
      ]

  none_of_empty : (x : X) (xs : List X) → ((z : X) → Contains (x ∷ xs) z → Contains [] z) → ⊥
  none_of_empty x xs into = let none = into x (Contains-cons_here x xs) in omega (arith, none.1)

  same_members : (xs ys : List X) → StrictlyRise order xs → StrictlyRise order ys
      → ((z : X) → Contains xs z → Contains ys z) → ((z : X) → Contains ys z → Contains xs z) → xs ≡ ys
  same_members [] [] rise_x rise_y into back = refl
  same_members [] (y ∷ ys) rise_x rise_y into back = absurd (none_of_empty y ys back)
  same_members (x ∷ xs) [] rise_x rise_y into back = absurd (none_of_empty x xs into)
  same_members (x ∷ xs) (y ∷ ys) rise_x rise_y into back =
      let same : x ≡ y = heads x y xs ys rise_x rise_y into back in
      ap₂ (λ z zs. z ∷ zs) same (same_members xs ys (AllPairs-tail (λ a b. order a b ≡ Less) x xs rise_x) (AllPairs-tail (λ a b. order a b ≡ Less) y ys rise_y)
      (tails x y xs ys same rise_x into) (tails y x ys xs (sym same) rise_y back))

  -- a list in strictly rising order is the same whatever order it came from
  pub one_order : (xs ys : List X) → StrictlyRise order xs → StrictlyRise order ys → IsPermutation xs ys → xs ≡ ys
  one_order xs ys rise_x rise_y moved =
      same_members xs ys rise_x rise_y (λ z. Contains-permutation xs ys z moved) (λ z. Contains-permutation ys xs z (IsPermutation-sym xs ys moved))
