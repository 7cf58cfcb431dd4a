-- The size of an object is at most four times the number of its cells, and an object has a cell at least.
use Rattle.std.proofs.Common.{◌≡◌, ◌⊎◌, inl, inr, ℕ, zero, suc, ◌+◌, ◌-◌, ◌*◌, ◌/◌, ◌≤◌, List, [], ◌∷◌, ◌++◌, length, length-append, refl, sym, subst, arith}
use Rattle.c_tree.specs.declared.value.IntType.TheVariants.{Int, Uint}
use Rattle.c_tree.specs.Tree.{CType, integer, pointer, array, struct}
use Rattle.c_tree.specs.Layout.{Structs, members_of, flat_with, flat_all_with, layout, struct_cells, cells, Extent, round_up, put_after, extent_with, extent_after, rounded, struct_extent, sizeof}
use Rattle.c_meaning.proofs.Places.{length_repeat}
use Rattle.c_rules.proofs.Greater.{greater}

-- an extent beside so many cells
pub record IsWithin (e : Extent) (n : ℕ) : Type 0 where
  pub size : e.size ≤ 4 * n
  pub aligned : (e.alignment ≡ 1) ⊎ (e.alignment ≡ 4)

rounded_up : (size a n : ℕ) → size ≤ 4 * n → (a ≡ 1) ⊎ (a ≡ 4) → round_up size a ≤ 4 * n
rounded_up size a n h (inl e) = subst (λ a. round_up size a ≤ 4 * n) (sym e) (let q : round_up size 1 ≤ 4 * n = omega (arith, h) in q)
rounded_up size a n h (inr e) = subst (λ a. round_up size a ≤ 4 * n) (sym e) (let q : (size + (4 - 1)) / 4 * 4 ≤ 4 * n = omega (arith, h) in q)

put_within : (e m : Extent) (n k : ℕ) → IsWithin e n → IsWithin m k → IsWithin (put_after e m) (n + k)
put_within e m n k h g = record {
  size = (let r = rounded_up e.size m.alignment n h.size g.aligned in let s = g.size in omega (arith, r, s));
  aligned = greater e.alignment m.alignment h.aligned g.aligned;
}

rounded_within : (e : Extent) (n : ℕ) → IsWithin e n → IsWithin (rounded e) n
rounded_within e n h = record { size = rounded_up e.size e.alignment n h.size h.aligned; aligned = h.aligned }

module _ (f : ℕ → Extent) (g : ℕ → List CType) (h : (s : ℕ) → IsWithin (f s) (length (g s))) where
  with_within : (t : CType) → IsWithin (extent_with f t) (length (flat_with g t))
  with_within (integer Int) = record { size = omega arith; aligned = inr refl }
  with_within (integer Uint) = record { size = omega arith; aligned = inr refl }
  with_within (pointer t) = record { size = omega arith; aligned = inr refl }
  with_within (array t n) = record {
    size = (let s = (with_within t).size in let l = length_repeat n (flat_with g t) in subst (λ k. n * (extent_with f t).size ≤ 4 * k) (sym l) (times n (extent_with f t).size (length (flat_with g t)) s));
    aligned = (with_within t).aligned;
  }
    where
      times : (n a c : ℕ) → a ≤ 4 * c → n * a ≤ 4 * (n * c)
      times zero a c l = omega arith
      times (suc n) a c l = (let r = times n a c l in omega (arith, r, l))
  with_within (struct s) = h s
  with_within t = record { size = omega arith; aligned = inl refl }

  after_within : (e : Extent) (n : ℕ) (ts : List CType) → IsWithin e n → IsWithin (extent_after f e ts) (n + length (flat_all_with g ts))
  after_within e n [] w = subst (IsWithin e) (let q : n ≡ n + 0 = omega arith in q) w
  after_within e n (t ∷ ts) w =
      subst (IsWithin (extent_after f (put_after e (extent_with f t)) ts)) (let a = length-append (flat_with g t) (flat_all_with g ts) in let q : (n + length (flat_with g t)) + length (flat_all_with g ts) ≡ n + length (flat_with g t ++ flat_all_with g ts) = omega (arith, a) in q)
      (after_within (put_after e (extent_with f t)) (n + length (flat_with g t)) ts (put_within e (extent_with f t) n (length (flat_with g t)) w (with_within t)))

struct_within : (structs : Structs) (depth s : ℕ) → IsWithin (struct_extent structs depth s) (length (layout structs depth s))
struct_within structs zero s = record { size = omega arith; aligned = inl refl }
struct_within structs (suc depth) s =
    let start : Extent = record { size = 0; alignment = 1 } in
    let n : ℕ = length (flat_all_with (layout structs depth) (members_of structs s)) in
    let begins : IsWithin start 0 = record { size = omega arith; aligned = inl refl } in
    let q : 0 + n ≡ n = omega arith in
    subst (IsWithin (rounded (extent_after (struct_extent structs depth) start (members_of structs s)))) q
    (rounded_within (extent_after (struct_extent structs depth) start (members_of structs s)) (0 + n) (after_within (struct_extent structs depth) (layout structs depth) (struct_within structs depth) start 0 (members_of structs s) begins))

pub size_bound : (structs : Structs) (t : CType) → sizeof structs t ≤ 4 * cells structs t
size_bound structs t = (with_within (struct_extent structs (length structs)) (struct_cells structs) (struct_within structs (length structs)) t).size
