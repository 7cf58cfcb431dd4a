-- Sums over lists whose items differ.
use Rattle.std.proofs.Common.{◌≡◌, ◌≢◌, ℕ, ◌+◌, ◌≤◌, Bool, true, false, cond, List, [], ◌∷◌, get_or, filter, sum_by, All, AllPairs, refl, ap, inl, inr, arith}
use Prim.Native.Nat.{suc}
use Rattle.std.proofs.lemmas.Bool.{cases_Bool}
use Rattle.std.proofs.lemmas.List.Elements.{All-tail}
use Rattle.std.proofs.lemmas.List.Sums.{sum_by-cons, sum_by-le-sum_by}

-- each later item is another
pub differ_first : {X : Type 0} (x : X) (xs : List X) → AllPairs (λ a b. a ≢ b) (x ∷ xs) → All (λ y. x ≢ y) xs
differ_first x xs differ k d lt = differ 0 (suc k) d (omega arith) (omega arith)

pub differ_rest : {X : Type 0} (x : X) (xs : List X) → AllPairs (λ a b. a ≢ b) (x ∷ xs) → AllPairs (λ a b. a ≢ b) xs
differ_rest x xs differ i j d lt within = differ (suc i) (suc j) d (omega arith) (omega arith)

module _ {X : Type 0} (p : X → Bool) (v : ℕ) where
  -- where no item passes, nothing is counted
  none_passes : (xs : List X) → All (λ x. p x ≡ false) xs → sum_by (λ x. cond (p x) v 0) xs ≡ 0
  none_passes [] none = refl
  none_passes (x ∷ xs) none =
      let here : cond (p x) v 0 ≡ 0 = ap (λ b. cond b v 0) (none 0 x (omega arith)) in
      omega (arith, sum_by-cons (λ x. cond (p x) v 0) x xs, none_passes xs (All-tail (λ x. p x ≡ false) x xs none))

  -- where at most one item passes, it is counted once
  one_passes : (xs : List X) → AllPairs (λ a b. a ≢ b) xs → ((a b : X) → p a ≡ true → p b ≡ true → a ≡ b) → sum_by (λ x. cond (p x) v 0) xs ≤ v
  one_passes [] differ one = omega arith
  one_passes (x ∷ xs) differ one = elim (cases_Bool (p x)) [
    | inl on ↦
        let others : All (λ y. p y ≡ false) xs = λ k d lt. elim (cases_Bool (p (get_or xs k d))) [
          | inl too ↦ absurd (differ_first x xs differ k d lt (one x (get_or xs k d) on too))
          | inr off ↦ off
        ] in
        let here : cond (p x) v 0 ≡ v = ap (λ b. cond b v 0) on in
        omega (arith, sum_by-cons (λ x. cond (p x) v 0) x xs, none_passes xs others)
    | inr off ↦
        let here : cond (p x) v 0 ≡ 0 = ap (λ b. cond b v 0) off in
        omega (arith, sum_by-cons (λ x. cond (p x) v 0) x xs, one_passes xs (differ_rest x xs differ) one)
  ]

-- the sum of two sums
pub sum_by-add : {X : Type 0} (f h : X → ℕ) (xs : List X) → sum_by (λ x. f x + h x) xs ≡ sum_by f xs + sum_by h xs
sum_by-add f h [] = refl
sum_by-add f h (x ∷ xs) = omega (arith, sum_by-cons (λ x. f x + h x) x xs, sum_by-cons f x xs, sum_by-cons h x xs, sum_by-add f h xs)

pub sum_by-nothing : {X : Type 0} (xs : List X) → sum_by (λ x. 0) xs ≡ 0
sum_by-nothing [] = refl
sum_by-nothing {X} (x ∷ xs) = omega (arith, sum_by-cons (λ (y : X). 0) x xs, sum_by-nothing xs)

-- what an item adds to a sum over those that pass
filtered-cons : {Y : Type 0} (p : Y → Bool) (w : Y → ℕ) (y : Y) (ys : List Y) → sum_by w (filter p (y ∷ ys)) ≡ cond (p y) (w y) 0 + sum_by w (filter p ys)
filtered-cons p w y ys = elim (p y) as (λ b. sum_by w (cond b (y ∷ filter p ys) (filter p ys)) ≡ cond b (w y) 0 + sum_by w (filter p ys)) [
  | true ↦ sum_by-cons w y (filter p ys)
  | false ↦ omega arith
]

-- Items of one list that differ share out the items of another, of which each passes for one of them at most.
module _ {X Y : Type 0} (p : X → Y → Bool) (w : Y → ℕ) (xs : List X) (differ : AllPairs (λ a b. a ≢ b) xs) (one : (y : Y) (a b : X) → p a y ≡ true → p b y ≡ true → a ≡ b) where
  pub shared_sum : (ys : List Y) → sum_by (λ a. sum_by w (filter (p a) ys)) xs ≤ sum_by w ys
  shared_sum [] = omega (arith, sum_by-nothing xs)
  shared_sum (y ∷ ys) =
      let each : sum_by (λ a. sum_by w (filter (p a) (y ∷ ys))) xs ≤ sum_by (λ a. cond (p a y) (w y) 0 + sum_by w (filter (p a) ys)) xs = sum_by-le-sum_by _ _ xs (λ a. omega (arith, filtered-cons (p a) w y ys)) in
      omega (arith, each, sum_by-add (λ a. cond (p a y) (w y) 0) (λ a. sum_by w (filter (p a) ys)) xs, one_passes (λ a. p a y) (w y) xs differ (one y), shared_sum ys, sum_by-cons w y ys)
