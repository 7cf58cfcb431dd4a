-- The cells of an array, and of a struct whose count is known.
use Rattle.std.proofs.Common.{◌≡◌, ℕ, zero, suc, ◌+◌, ◌*◌, ◌%◌, ◌≤◌, List, ◌++◌, length, length-append, Some, slice_get, ap, sym, subst, ◌∙◌, ◌<◌, get_or, arith}
use Rattle.std.proofs.lemmas.Option.{get_or_from_slice_get}
use Rattle.c_tree.specs.Tree.{CType, array, struct}
use Rattle.c_tree.specs.Layout.{Structs, repeat, flat, cells}
use Rattle.c_tree.specs.Counts.{AreCounts}
use Rattle.c_tree.specs.Operands.{IsComplete, IsObject}

pub length-repeat : {A : Type 0} (n : ℕ) (xs : List A) → length (repeat n xs) ≡ n * length xs
length-repeat zero xs = omega arith
length-repeat (suc n) xs =
    let h : length (repeat n xs) ≡ n * length xs = length-repeat n xs in
    let q : length (xs ++ repeat n xs) ≡ length xs + length (repeat n xs) = length-append xs (repeat n xs) in
    let r : suc n * length xs ≡ length xs + n * length xs = grind arith in
    q ∙ (ap (λ k. length xs + k) h ∙ sym r)

array_cells : (structs : Structs) (t : CType) (n : ℕ) → cells structs (array t n) ≡ n * cells structs t
array_cells structs t n = length-repeat n (flat structs t)

few_each : (n k : ℕ) → 1 ≤ n → n * k ≤ 65536 → k ≤ 65536
few_each (suc n) k some few = let q : suc n * k ≡ k + n * k = grind arith in omega (arith, q, few)
few_each zero k some few = absurd (omega (arith, some))

pub element_object : (structs : Structs) (t : CType) (n : ℕ) → IsObject structs (array t n) → IsObject structs t
element_object structs t n h = record {
  complete = h.complete.1;
  few = few_each n (cells structs t) h.complete.0 (rw (array_cells structs t n) at h.few);
}

few_cells : (n k c : ℕ) → c ≡ n * k → c ≤ 65536 → (k * n) % 4294967296 ≡ c
few_cells n k c q few =
    let r : k * n ≡ n * k = grind arith in
    let below : k * n < 4294967296 = omega (arith, r, q, few) in let whole : (k * n) % 4294967296 ≡ k * n = omega (arith, below) in whole ∙ (r ∙ sym q)

array_of : (structs : Structs) (t : CType) (n k : ℕ) → IsObject structs (array t n) → (IsObject structs t → k ≡ cells structs t) → (k * n) % 4294967296 ≡ cells structs (array t n)
array_of structs t n k h each =
    let q : k ≡ cells structs t = each (element_object structs t n h) in
    few_cells n k (cells structs (array t n)) (array_cells structs t n ∙ ap (λ m. n * m) (sym q)) h.few

-- so many elements of a type whose cells are counted
pub array_count : (structs : Structs) (t d u : CType) (n k : ℕ) → u ≡ array t n → d ≡ t → IsObject structs u → (IsObject structs d → k ≡ cells structs d) → (k * n) % 4294967296 ≡ cells structs u
array_count structs t d u n k q r h each =
    subst (λ x. (k * n) % 4294967296 ≡ cells structs x) (sym q) (array_of structs t n k (subst (IsObject structs) q h) (subst (λ x. IsObject structs x → k ≡ cells structs x) r each))

same_count : (k m : ℕ) (counts : List ℕ) (s : ℕ) → slice_get counts s ≡ Some m → k ≡ get_or counts s 0 → k ≡ m
same_count k m counts s h e = e ∙ get_or_from_slice_get counts s m 0 h

-- the count of a struct
pub struct_count : (structs : Structs) (counts : List ℕ) (u : CType) (s k : ℕ) → u ≡ struct s → AreCounts structs counts → IsObject structs u → k ≡ get_or counts s 0 → k ≡ cells structs u
struct_count structs counts u s k q known h e =
    let complete : IsComplete structs (struct s) = subst (IsComplete structs) q h.complete in
    subst (λ x. k ≡ cells structs x) (sym q) (same_count k (cells structs (struct s)) counts s (known s complete.0 complete.1) e)
