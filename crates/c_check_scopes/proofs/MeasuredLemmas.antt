-- Cells and extents of types by those of the structs that they hold.
use Rattle.std.proofs.Common.{◌≡◌, ℕ, zero, suc, ◌+◌, ◌*◌, List, [], ◌∷◌, ◌++◌, length, length-append, refl, ap, sym, ◌∙◌, arith}
use Rattle.c_tree.specs.Tree.{CType, void, integer, pointer, array, struct, function}
use Rattle.c_tree.specs.Layout.{Structs, Extent, repeat, flat_with, flat_all_with, layout, members_of, extent_with, extent_after, rounded, put_after, struct_extent}
use Rattle.c_check_scopes.specs.Held.{AllIn, AllInAll}
use Rattle.c_check_scopes.specs.Measured.{counted, counted_all, no_extent}
use Rattle.c_check_scopes.proofs.ClosedLemmas.{over, Looks}

pub length_repeat : {A : Type 0} (n : ℕ) (xs : List A) → length (repeat n xs) ≡ n * length xs
length_repeat zero xs = omega arith
length_repeat (suc n) xs =
    let h : length (repeat n xs) ≡ n * length xs = length_repeat n xs in
    let q : length (xs ++ repeat n xs) ≡ length xs + length (repeat n xs) = length-append xs (repeat n xs) in
    let r : suc n * length xs ≡ length xs + n * length xs = grind arith in q ∙ (ap (λ k. length xs + k) h ∙ sym r)

-- ## Cells

pub counted_is : (f : ℕ → ℕ) (g : ℕ → List CType) → ((s : ℕ) → f s ≡ length (g s)) → (t : CType) → counted f t ≡ length (flat_with g t)
counted_is f g h void = refl
counted_is f g h (integer i) = refl
counted_is f g h (pointer t) = refl
counted_is f g h (array t n) = ap (λ k. n * k) (counted_is f g h t) ∙ sym (length_repeat n (flat_with g t))
counted_is f g h (struct s) = h s
counted_is f g h (function t ts) = refl

sum_same : (a b c d : ℕ) → a ≡ c → b ≡ d → a + b ≡ c + d
sum_same a b c d p q = omega arith

pub counted_all_is : (f : ℕ → ℕ) (g : ℕ → List CType) → ((s : ℕ) → f s ≡ length (g s)) → (ts : List CType) → counted_all f ts ≡ length (flat_all_with g ts)
counted_all_is f g h [] = refl
counted_all_is f g h (t ∷ ts) =
    sum_same (counted f t) (counted_all f ts) (length (flat_with g t)) (length (flat_all_with g ts)) (counted_is f g h t) (counted_all_is f g h ts)
    ∙ sym (length-append (flat_with g t) (flat_all_with g ts))

-- the cells of a struct at a depth
pub layout_count : (structs : Structs) (depth s : ℕ) → length (layout structs depth s) ≡ over 0 counted_all structs depth s
layout_count structs zero s = refl
layout_count structs (suc depth) s =
    sym (counted_all_is (over 0 counted_all structs depth) (layout structs depth) (λ r. sym (layout_count structs depth r)) (members_of structs s))

counted_same : (f g : ℕ → ℕ) (t : CType) → AllIn (λ s. f s ≡ g s) t → counted f t ≡ counted g t
counted_same f g void h = refl
counted_same f g (integer i) h = refl
counted_same f g (pointer t) h = refl
counted_same f g (array t n) h = ap (λ k. n * k) (counted_same f g t h)
counted_same f g (struct s) h = h
counted_same f g (function t ts) h = refl

pub counted_looks : Looks counted_all
counted_looks f g [] h = refl
counted_looks f g (t ∷ ts) h = sum_same (counted f t) (counted_all f ts) (counted g t) (counted_all g ts) (counted_same f g t h.0) (counted_looks f g ts h.1)

-- ## Extents

-- a struct with members that follow each other
abbrev pub extent_rule : (ℕ → Extent) → List CType → Extent
extent_rule f ts = rounded (extent_after f no_extent ts)

pub struct_extent_is : (structs : Structs) (depth s : ℕ) → struct_extent structs depth s ≡ over no_extent extent_rule structs depth s
struct_extent_is structs zero s = refl
struct_extent_is structs (suc depth) s = ap (λ f. extent_rule f (members_of structs s)) (λ i r. struct_extent_is structs depth r i)

extent_same : (f g : ℕ → Extent) (t : CType) → AllIn (λ s. f s ≡ g s) t → extent_with f t ≡ extent_with g t
extent_same f g void h = refl
extent_same f g (integer i) h = refl
extent_same f g (pointer t) h = refl
extent_same f g (array t n) h = ap (λ (e : Extent). record { size = n * e.size; alignment = e.alignment }) (extent_same f g t h)
extent_same f g (struct s) h = h
extent_same f g (function t ts) h = refl

after_same : (f g : ℕ → Extent) (e : Extent) (ts : List CType) → AllInAll (λ s. f s ≡ g s) ts → extent_after f e ts ≡ extent_after g e ts
after_same f g e [] h = refl
after_same f g e (t ∷ ts) h =
    ap (λ x. extent_after f (put_after e x) ts) (extent_same f g t h.0) ∙ after_same f g (put_after e (extent_with g t)) ts h.1

pub extent_looks : Looks extent_rule
extent_looks f g ts h = ap rounded (after_same f g no_extent ts h)
