-- Two lists place by place.
use Rattle.std.proofs.Common.{◌≡◌, ℕ, zero, suc, ◌<◌, ◌+◌, List, [], ◌∷◌, length, Some, None, Decides, ◌==◌, refl, sym, ◌∙◌, subst, arith, ⊎_elim}
use Rattle.std.proofs.lemmas.Bool.{cases_lt}
use Rattle.std.proofs.lemmas.Bool.Decides.{Decides-eqb}
use Rattle.std.proofs.lemmas.Slice.Zip.{AllZip-long}
use Rattle.std.specs.List.{AllZip, slice_get}

-- R holds of what stands at each place below n, in both lists
abbrev pub PairsBelow : {A B : Type 0} → (A → B → Type 0) → List A → List B → ℕ → Type 0
PairsBelow {A} {B} R xs ys n = (k : ℕ) (x : A) (y : B) → k < n → slice_get xs k ≡ Some x → slice_get ys k ≡ Some y → R x y

-- what stands at one place
pub pair_at : {A B : Type 0} (R : A → B → Type 0) (xs : List A) (ys : List B) (k : ℕ) (x : A) (y : B) → AllZip R xs ys → slice_get xs k ≡ Some x → slice_get ys k ≡ Some y → R x y
pair_at R [] ys k x y all at_x at_y = cc
pair_at R (a ∷ xs) [] k x y all at_x at_y = cc
pair_at R (a ∷ xs) (b ∷ ys) zero x y all at_x at_y =
    let same_x : a ≡ x = cc in
    let same_y : b ≡ y = cc in
    subst (λ v. R v y) same_x (subst (R a) same_y all.0)
pair_at R (a ∷ xs) (b ∷ ys) (suc k) x y all at_x at_y = pair_at R xs ys k x y all.1 at_x at_y

-- the second list goes as far as the first
pub no_pair_at : {A B : Type 0} (R : A → B → Type 0) (xs : List A) (ys : List B) (k : ℕ) → AllZip R xs ys → k < length xs → None ≡ slice_get ys k → ⊥
no_pair_at R [] ys k all within absent = omega arith
no_pair_at R (a ∷ xs) [] k all within absent = all
no_pair_at R (a ∷ xs) (b ∷ ys) zero all within absent = cc
no_pair_at R (a ∷ xs) (b ∷ ys) (suc k) all within absent = no_pair_at R xs ys k all.1 (omega arith) absent

-- one more place
pub PairsBelow-more : {A B : Type 0} (R : A → B → Type 0) (xs : List A) (ys : List B) (n : ℕ) (a : A) (b : B) → PairsBelow R xs ys n → slice_get xs n ≡ Some a → slice_get ys n ≡ Some b → R a b → PairsBelow R xs ys (n + 1)
PairsBelow-more R xs ys n a b below at_a at_b here k x y within at_x at_y =
    ⊎_elim (λ before. below k x y before at_x at_y)
    (λ from.
    let same : k ≡ n = omega arith in
    let a_is_x : a ≡ x = cc in
    let b_is_y : b ≡ y = cc in
    subst (λ v. R v y) a_is_x (subst (R a) b_is_y here))
    (cases_lt k n)

-- the whole lists, from each place
pub PairsBelow-all : {A B : Type 0} (R : A → B → Type 0) (xs : List A) (ys : List B) → length ys ≡ length xs → PairsBelow R xs ys (length xs) → AllZip R xs ys
PairsBelow-all R [] [] long each = tt
PairsBelow-all R [] (b ∷ ys) long each = absurd (omega arith)
PairsBelow-all R (a ∷ xs) [] long each = absurd (omega arith)
PairsBelow-all R (a ∷ xs) (b ∷ ys) long each = (
  each 0 a b (omega arith) refl refl,
  PairsBelow-all R xs ys (omega arith) (λ k x y within at_x at_y. each (suc k) x y (omega arith) at_x at_y),
)

-- the whole lists, where the second has n elements
pub PairsBelow-decides : {A B : Type 0} (R : A → B → Type 0) (xs : List A) (ys : List B) (n : ℕ) → n ≡ length ys → PairsBelow R xs ys (length xs) → Decides (n == length xs) (AllZip R xs ys)
PairsBelow-decides R xs ys n long each = (
  λ same. PairsBelow-all R xs ys (sym long ∙ (Decides-eqb n (length xs)).0 same) each,
  λ all. (Decides-eqb n (length xs)).1 (long ∙ AllZip-long R xs ys all),
)
