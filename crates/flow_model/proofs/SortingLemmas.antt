-- What holds of a list in order: neighbours decide whether some of its items are equal.
use Rattle.std.proofs.Common.{◌≡◌, ◌≢◌, ◌↔◌, inl, inr, ℕ, zero, suc, ◌+◌, ◌-◌, ◌<◌, Bool, true, false, List, [], ◌∷◌, length, get_or, map, IsTrue, refl, sym, ◌∙◌, ap, arith, add-one}
use Rattle.std.specs.Prelude.{AllPairs, IsPermutation}
use Rattle.std.specs.Cmp.{IsTotalOrder}
use Rattle.std.specs.List.{AllAdjacentBelow, IsAllAdjacentAnswer, swap}
use Rattle.std.specs.List.Sorted.{IsSorted}
use Rattle.std.specs.Ordering.{is_lt, ordering_reverse}
use Rattle.std.specs.declared.cmp.Ordering.{Ordering}
use Rattle.std.specs.declared.cmp.Ordering.TheVariants.{Less, Equal, Greater}
use Rattle.std.proofs.lemmas.Bool.{cases_eq, cases_order, false≢true}
use Rattle.std.proofs.lemmas.Cmp.{tied_back}
use Rattle.std.proofs.lemmas.List.Sorted.{IsPermutation-keeps, IsPermutation-sym}
use Rattle.std.proofs.lemmas.List.{get_or-map, length-map}
use Rattle.std.proofs.lemmas.List.Edits.{swapped_from_swap, length-swap}

-- the items at any two places are apart by S
record AreApart {X : Type 0} (S : X → X → Type 0) (xs : List X) : Type 0 where
  at : (i j : ℕ) (d : X) → i ≢ j → i < length xs → j < length xs → S (get_or xs i d) (get_or xs j d)

-- after an exchange of the places a and b, the item at m is the one that stood at n
data Moved (a b : ℕ) : ℕ → ℕ → Type 0 where
  first : {m n : ℕ} → m ≡ a → n ≡ b → Moved a b m n
  second : {m n : ℕ} → m ≡ b → n ≡ a → Moved a b m n
  other : {m n : ℕ} → m ≢ a → m ≢ b → n ≡ m → Moved a b m n

Moved-apart : {a b i j m n : ℕ} → Moved a b i m → Moved a b j n → i ≢ j → m ≢ n
Moved-apart (first p q) (first r s) h = omega arith
Moved-apart (first p q) (second r s) h = omega arith
Moved-apart (first p q) (other r s t) h = omega arith
Moved-apart (second p q) (first r s) h = omega arith
Moved-apart (second p q) (second r s) h = omega arith
Moved-apart (second p q) (other r s t) h = omega arith
Moved-apart (other p q r) (first s t) h = omega arith
Moved-apart (other p q r) (second s t) h = omega arith
Moved-apart (other p q r) (other s t u) h = omega arith

Moved-within : {a b m n : ℕ} (k : ℕ) → Moved a b m n → a < k → b < k → m < k → n < k
Moved-within k (first p q) h i j = omega arith
Moved-within k (second p q) h i j = omega arith
Moved-within k (other p q r) h i j = omega arith

-- where the item at m came from
Source : {X : Type 0} → List X → ℕ → ℕ → X → ℕ → Type 0
Source xs a b d m = (n : ℕ) × Moved a b m n × (get_or (swap xs a b) m d ≡ get_or xs n d)

source : {X : Type 0} (xs : List X) (a b : ℕ) (d : X) (m : ℕ) → a < length xs → b < length xs → Source xs a b d m
unfolding Source
source xs a b d m ha hb =
    let moved = swapped_from_swap xs (swap xs a b) a b d ha hb refl in
    elim (cases_eq m a) [
      | inl e ↦ (b, first e refl, ap (λ k. get_or (swap xs a b) k d) e ∙ moved.0)
      | inr p ↦ elim (cases_eq m b) [
        | inl e ↦ (a, second e refl, ap (λ k. get_or (swap xs a b) k d) e ∙ moved.1)
        | inr q ↦ (m, other p q refl, moved.2 m p q)
      ]
    ]

AreApart-swap : {X : Type 0} (S : X → X → Type 0) (xs : List X) (a b : ℕ) → a < length xs → b < length xs → AreApart S xs → AreApart S (swap xs a b)
unfolding Source
AreApart-swap S xs a b ha hb apart = record {
  at = λ i j d ne hi hj.
      let long = length-swap xs a b in
      let p = source xs a b d i ha hb in
      let q = source xs a b d j ha hb in
      let within_i : i < length xs = omega arith in
      let within_j : j < length xs = omega arith in
      rw (p.2, q.2) (apart.at p.0 q.0 d (Moved-apart p.1 q.1 ne) (Moved-within (length xs) p.1 ha hb within_i) (Moved-within (length xs) q.1 ha hb within_j));
}

-- for an S that goes both ways, all pairs are apart in one order of the items where they are in another
pub AllPairs-IsPermutation : {X : Type 0} (S : X → X → Type 0) → ((x y : X) → S x y → S y x) → (xs ys : List X) → IsPermutation xs ys → AllPairs S xs → AllPairs S ys
AllPairs-IsPermutation S back xs ys same pairs =
    let either : AreApart S xs = record {
      at = λ i j d ne hi hj.
          elim (cases_order i j) [
            | inl e ↦ absurd (ne e)
            | inr o ↦ elim o [ inl h ↦ pairs i j d h hj | inr h ↦ back _ _ (pairs j i d h hi) ]
          ];
    } in
    let kept = IsPermutation-keeps xs (AreApart S) either (λ l i j hi hj. AreApart-swap S l i j hi hj) ys same in
    λ i j d h hj. kept.at i j d (omega arith) (omega arith) hj

module _ {X : Type 0} (R : X → X → Ordering) (o : IsTotalOrder R) where
  rising_far : (xs : List X) → AllAdjacentBelow (λ x y. R x y ≡ Less) xs (length xs) → (n i : ℕ) (d : X) → i + suc n < length xs → R (get_or xs i d) (get_or xs (i + suc n) d) ≡ Less
  rising_far xs next zero i d h = rw (← add-one) (next i d (omega arith))
  rising_far xs next (suc n) i d h =
      let e : i + suc (suc n) ≡ i + suc n + 1 = omega arith in
      rw e (o.trans _ _ _ (rising_far xs next n i d (omega arith)) (next (i + suc n) d (omega arith)))

  -- where each item goes before the next, each goes before all later ones
  pub AllPairs-from_adjacent : (xs : List X) → AllAdjacentBelow (λ x y. R x y ≡ Less) xs (length xs) → AllPairs (λ x y. R x y ≡ Less) xs
  AllPairs-from_adjacent xs next i j d h hj =
      let e : i + suc (j - i - 1) ≡ j = omega arith in
      rw e at (rising_far xs next (j - i - 1) i d (omega arith))

  less : (q : Ordering) → is_lt q ≡ true → q ≡ Less
  less Less e = refl
  less Equal e = cc
  less Greater e = cc

  tied : (q p : Ordering) → p ≡ ordering_reverse q → is_lt q ≡ false → is_lt p ≡ false → q ≡ Equal
  tied Less p e h k = cc
  tied Equal p e h k = refl
  tied Greater p e h k = let h' : is_lt p ≡ true = ap is_lt e in cc

  -- what an answer on neighbours says of all pairs
  pub AllPairs-from_answer : (ys : List X) (r : Bool) → IsAllAdjacentAnswer (λ x y b. b ≡ is_lt (R x y)) ys r → r ≡ true → AllPairs (λ x y. R x y ≡ Less) ys
  AllPairs-from_answer ys true h e = AllPairs-from_adjacent ys (λ k d lt. less _ (sym (h k d lt)))
  AllPairs-from_answer ys false h e = absurd (false≢true e)

  true_from_apart : (ys : List X) (r : Bool) → IsSorted R ys → IsAllAdjacentAnswer (λ x y b. b ≡ is_lt (R x y)) ys r → AllPairs (λ x y. R x y ≢ Equal) ys → r ≡ true
  true_from_apart ys true sorted h apart = refl
  true_from_apart [] false sorted h apart = absurd (omega arith)
  true_from_apart (y ∷ ys) false sorted h apart =
      let k = h.0 in
      let lt = h.1 in
      absurd (apart k (k + 1) y (omega arith) lt (tied _ _ (o.antisymm _ _) (sym (h.2 y)) (sorted k y (omega arith) lt)))

  -- what a sort, and an answer on neighbours after it, say of the list before the sort
  pub differ_from_sorted : (xs ys : List X) (r : Bool) → IsPermutation xs ys → IsSorted R ys → IsAllAdjacentAnswer (λ x y b. b ≡ is_lt (R x y)) ys r → IsTrue r ↔ AllPairs (λ x y. R x y ≢ Equal) xs
  differ_from_sorted xs ys r same sorted h =
      let S : X → X → Type 0 = λ x y. R x y ≢ Equal in
      let back : (x y : X) → S x y → S y x = λ x y ne e. ne (tied_back o y x e) in
      let ahead : r ≡ true → AllPairs S xs = λ e. AllPairs-IsPermutation S back ys xs (IsPermutation-sym xs ys same) (λ i j d lt within even. let less = AllPairs-from_answer ys r h e i j d lt within in cc) in
      (ahead, λ apart. true_from_apart ys r sorted h (AllPairs-IsPermutation S back xs ys same apart))

-- a fact of all pairs, and a weaker one
pub AllPairs-weaker : {X : Type 0} (S U : X → X → Type 0) → ((x y : X) → S x y → U x y) → (xs : List X) → AllPairs S xs → AllPairs U xs
AllPairs-weaker S U weaker xs pairs i j d h within = weaker _ _ (pairs i j d h within)

-- where R ties just what is the same by the key, the items are apart by R where their keys differ
pub differ_by_key : {X K : Type 0} (R : X → X → Ordering) (key : X → K) → ((x y : X) → R x y ≡ Equal ↔ key x ≡ key y) → (xs : List X) (r : Bool) → IsTrue r ↔ AllPairs (λ x y. R x y ≢ Equal) xs → IsTrue r ↔ AllPairs (λ x y. key x ≢ key y) xs
differ_by_key R key ties xs r h = (
  λ e. AllPairs-weaker (λ x y. R x y ≢ Equal) (λ x y. key x ≢ key y) (λ x y ne same. ne ((ties x y).1 same)) xs (h.0 e),
  λ pairs. h.1 (AllPairs-weaker (λ x y. key x ≢ key y) (λ x y. R x y ≢ Equal) (λ x y ne tie. ne ((ties x y).0 tie)) xs pairs),
)

-- lists with the same keys in one order: where the keys of one differ, those of the other do
pub AllPairs-keys : {X Y K : Type 0} (f : X → K) (g : Y → K) (xs : List X) (ys : List Y) → map f xs ≡ map g ys → AllPairs (λ x y. f x ≢ f y) xs → AllPairs (λ x y. g x ≢ g y) ys
AllPairs-keys f g [] ys e pairs i j d h within = let long = ap length e in absurd (omega (arith, length-map ys g))
AllPairs-keys f g (x ∷ xs) ys e pairs i j d h within =
    let long : length (map f (x ∷ xs)) ≡ length (map g ys) = ap length e in
    let first : i < length (x ∷ xs) = omega (arith, length-map ys g, length-map xs f) in
    let second : j < length (x ∷ xs) = omega (arith, length-map ys g, length-map xs f) in
    let key_at : (k : ℕ) → k < length (x ∷ xs) → k < length ys → f (get_or (x ∷ xs) k x) ≡ g (get_or ys k d) = λ k here there. sym (get_or-map f (x ∷ xs) k x (g d) here) ∙ ap (λ keys. get_or keys k (g d)) e ∙ get_or-map g ys k d (g d) there in
    λ same. pairs i j x h second (key_at i first (omega arith) ∙ same ∙ sym (key_at j second within))
