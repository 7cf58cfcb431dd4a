-- What an object takes is at most four bytes for each of its cells.
use Rattle.std.proofs.Common.{◌≡◌, ◌⊎◌, inl, inr, ℕ, zero, suc, ◌+◌, ◌-◌, ◌*◌, ◌/◌, ◌≤◌, ◌<◌, List, [], ◌∷◌, length, map, drop, get_or, Option, slice_get, refl, ap, sym, subst, ◌∙◌, arith}
use Rattle.std.specs.Prelude.{◌^◌}
use Rattle.c_tree.specs.declared.value.IntType.TheVariants.{Char, Uchar, Int, Uint}
use Rattle.c_tree.specs.Tree.{CType, void, integer, pointer, array, struct, function}
use Rattle.c_tree.specs.View.{ctype_of}
use Rattle.c_tree.specs.Layout.{Structs, Extent, members_of, struct_cells, cells, round_up, put_after, extent_with, extent_after, rounded, extent, sizeof, cells_of_all}
use Rattle.c_rules.specs.Limits.{most_cells}
use Rattle.c_rules.specs.Scopes.{types_of_struct}
use Rattle.c_check_scopes.specs.declared.structs.StructMember.{StructMember}
use Rattle.c_check_scopes.specs.declared.structs.Defined.{Defined}
use Rattle.c_check_scopes.specs.Known.{Known, layout_of}
use Rattle.c_check_scopes.specs.Shown.{members_types}
use Rattle.c_check_scopes.specs.View.{structs_of}
use Rattle.c_check_scopes.specs.Measured.{cells_kept, counted, counted_all, extent_kept, no_extent}
use Rattle.c_check_scopes.specs.Laid.{AreLaid}
use Rattle.c_check_scopes.specs.Fitting.{FitsIn, AreFitting, HasRoom}
use Rattle.c_check_scopes.proofs.ClosedLemmas.{over}
use Rattle.c_check_scopes.proofs.MeasuredLemmas.{counted_is, layout_count, extent_rule, struct_extent_is}
use Rattle.c_check_scopes.proofs.SeenLemmas.{layout_seen}
use Rattle.c_check_scopes.proofs.LaidLemmas.{structs_in, cells_over, extents_over, cells_of_all_told}
use Rattle.c_check_scopes.proofs.TableLemmas.{at_place}
use Rattle.c_rules.proofs.Greater.{greater}

up_within : (size a n : ℕ) → size ≤ 4 * n → (a ≡ 1) ⊎ (a ≡ 4) → round_up size a ≤ 4 * n
up_within size a n h (inl e) = subst (λ a. round_up size a ≤ 4 * n) (sym e) (let q : round_up size 1 ≤ 4 * n = omega (arith, h) in q)
up_within size a n h (inr e) = subst (λ a. round_up size a ≤ 4 * n) (sym e) (let q : (size + (4 - 1)) / 4 * 4 ≤ 4 * n = omega (arith, h) in q)

put_fits : (e m : Extent) (n k : ℕ) → FitsIn n e → FitsIn k m → FitsIn (n + k) (put_after e m)
put_fits e m n k h g = record {
  size = (let r = up_within e.size m.alignment n h.size g.alignment in let s = g.size in omega (arith, r, s));
  alignment = greater e.alignment m.alignment h.alignment g.alignment;
}

rounded_fits : (e : Extent) (n : ℕ) → FitsIn n e → FitsIn n (rounded e)
rounded_fits e n h = record { size = up_within e.size e.alignment n h.size h.alignment; alignment = h.alignment }

times : (n a c : ℕ) → a ≤ 4 * c → n * a ≤ 4 * (n * c)
times zero a c l = omega arith
times (suc n) a c l = (let r = times n a c l in omega (arith, r, l))

module _ (f : ℕ → Extent) (g : ℕ → ℕ) (h : (s : ℕ) → FitsIn (g s) (f s)) where
  type_fits : (t : CType) → FitsIn (counted g t) (extent_with f t)
  type_fits void = record { size = omega arith; alignment = inl refl }
  type_fits (integer Char) = record { size = omega arith; alignment = inl refl }
  type_fits (integer Uchar) = record { size = omega arith; alignment = inl refl }
  type_fits (integer Int) = record { size = omega arith; alignment = inr refl }
  type_fits (integer Uint) = record { size = omega arith; alignment = inr refl }
  type_fits (pointer t) = record { size = omega arith; alignment = inr refl }
  type_fits (array t n) = record { size = times n (extent_with f t).size (counted g t) (type_fits t).size; alignment = (type_fits t).alignment }
  type_fits (struct s) = h s
  type_fits (function t ts) = record { size = omega arith; alignment = inl refl }

  after_fits : (e : Extent) (n : ℕ) (ts : List CType) → FitsIn n e → FitsIn (n + counted_all g ts) (extent_after f e ts)
  after_fits e n [] w = subst (λ k. FitsIn k e) (let q : n ≡ n + 0 = omega arith in q) w
  after_fits e n (t ∷ ts) w =
      subst (λ k. FitsIn k (extent_after f (put_after e (extent_with f t)) ts)) (let q : (n + counted g t) + counted_all g ts ≡ n + (counted g t + counted_all g ts) = omega arith in q)
      (after_fits (put_after e (extent_with f t)) (n + counted g t) ts (put_fits e (extent_with f t) n (counted g t) w (type_fits t)))

  -- ## A member behind others

  room_here : (ms : List StructMember) (i : ℕ) (m : StructMember) (e : Extent) → i < length ms → m ≡ get_or ms i m → HasRoom g e (members_types (drop i ms)) → HasRoom g e (ctype_of m.ctype ∷ members_types (drop (i + 1) ms))
  room_here ms i m e l q room = subst (λ ys. HasRoom g e (members_types ys)) (at_place ms i m l q) room

  type_small : (t : CType) (ts : List CType) (e : Extent) → HasRoom g e (t ∷ ts) → (extent_with f t).size ≤ 4 * most_cells
  type_small t ts e room = (let w = (type_fits t).size in let r = room.2 in omega (arith, w, r))

  -- what the next member takes
  each_small : (ms : List StructMember) (i : ℕ) (m : StructMember) (e : Extent) → i < length ms → m ≡ get_or ms i m → HasRoom g e (members_types (drop i ms)) → (extent_with f (ctype_of m.ctype)).size ≤ 4 * most_cells
  each_small ms i m e l q room = type_small (ctype_of m.ctype) (members_types (drop (i + 1) ms)) e (room_here ms i m e l q room)

  pub each_counted : (ms : List StructMember) (i : ℕ) (m : StructMember) (e : Extent) → i < length ms → m ≡ get_or ms i m → HasRoom g e (members_types (drop i ms)) → (extent_with f (ctype_of m.ctype)).size < 2 ^ 32
  each_counted ms i m e l q room = (let w = each_small ms i m e l q room in omega (arith, w))

  -- what is told of it
  pub told_small : (ms : List StructMember) (i : ℕ) (m : StructMember) (e each : Extent) → i < length ms → m ≡ get_or ms i m → each ≡ extent_with f (ctype_of m.ctype) → HasRoom g e (members_types (drop i ms)) → each.size ≤ 4 * most_cells
  told_small ms i m e each l q is room = subst (λ (x : Extent). x.size ≤ 4 * most_cells) (sym is) (each_small ms i m e l q room)

  pub told_alignment : (m : StructMember) (each : Extent) → each ≡ extent_with f (ctype_of m.ctype) → (each.alignment ≡ 1) ⊎ (each.alignment ≡ 4)
  told_alignment m each is = subst (λ (x : Extent). (x.alignment ≡ 1) ⊎ (x.alignment ≡ 4)) (sym is) (type_fits (ctype_of m.ctype)).alignment

  put_room : (t : CType) (ts : List CType) (e : Extent) → HasRoom g e (t ∷ ts) → HasRoom g (put_after e (extent_with f t)) ts
  put_room t ts e room = (room.0 + counted g t, put_fits e (extent_with f t) room.0 (counted g t) room.1 (type_fits t), (let r = room.2 in omega (arith, r)))

  pub room_on : (ms : List StructMember) (i : ℕ) (m : StructMember) (sum each new : Extent) → i < length ms → m ≡ get_or ms i m → new ≡ put_after sum each → each ≡ extent_with f (ctype_of m.ctype) → HasRoom g sum (members_types (drop i ms)) → HasRoom g new (members_types (drop (i + 1) ms))
  room_on ms i m sum each new l q n e room =
      subst (λ x. HasRoom g x (members_types (drop (i + 1) ms))) (sym (n ∙ ap (put_after sum) e)) (put_room (ctype_of m.ctype) (members_types (drop (i + 1) ms)) sum (room_here ms i m sum l q room))

pub room_small : (g : ℕ → ℕ) (e : Extent) (ts : List CType) → HasRoom g e ts → e.size ≤ 4 * most_cells
room_small g e ts room = (let s = room.1.size in let r = room.2 in omega (arith, s, r))

pub room_first : (g : ℕ → ℕ) (ts : List CType) → counted_all g ts ≤ most_cells → HasRoom g no_extent ts
room_first g ts few = (0, record { size = omega arith; alignment = inl refl }, omega (arith, few))

pub at_least : (a : ℕ) → (a ≡ 1) ⊎ (a ≡ 4) → 1 ≤ a
at_least a (inl e) = omega (arith, e)
at_least a (inr e) = omega (arith, e)

pub at_most : (a : ℕ) → (a ≡ 1) ⊎ (a ≡ 4) → a ≤ 4
at_most a (inl e) = omega (arith, e)
at_most a (inr e) = omega (arith, e)

-- ## The table

over_fits : (structs : Structs) (depth s : ℕ) → FitsIn (over 0 counted_all structs depth s) (over no_extent extent_rule structs depth s)
over_fits structs zero s = record { size = omega arith; alignment = inl refl }
over_fits structs (suc depth) s =
    let n : ℕ = counted_all (over 0 counted_all structs depth) (members_of structs s) in
    let begins : FitsIn 0 no_extent = record { size = omega arith; alignment = inl refl } in
    let q : 0 + n ≡ n = omega arith in
    subst (λ k. FitsIn k (extent_rule (over no_extent extent_rule structs depth) (members_of structs s))) q
    (rounded_fits (extent_after (over no_extent extent_rule structs depth) no_extent (members_of structs s)) (0 + n) (after_fits (over no_extent extent_rule structs depth) (over 0 counted_all structs depth) (over_fits structs depth) no_extent 0 (members_of structs s) begins))

-- at most four bytes for each cell of a type
size_fits : (structs : Structs) (t : CType) → sizeof structs t ≤ 4 * cells structs t
size_fits structs t =
    let f : ℕ → Extent = over no_extent extent_rule structs (length structs) in
    let g : ℕ → ℕ = over 0 counted_all structs (length structs) in
    let few : counted g t ≡ cells structs t = counted_is g (struct_cells structs) (λ s. sym (layout_count structs (length structs) s)) t in
    let same : extent structs t ≡ extent_with f t = ap (λ h. extent_with h t) (λ i s. struct_extent_is structs (length structs) s i) in
    let w : (extent_with f t).size ≤ 4 * counted g t = (type_fits f g (over_fits structs (length structs)) t).size in
    omega (arith, few, ap (λ (e : Extent). e.size) same, w)

pub size_small : (v : List (Option (List Known))) (t : CType) → cells (map types_of_struct (structs_of v)) t ≤ most_cells → sizeof (layout_of v) t < 2 ^ 32
size_small v t few = omega (arith, size_fits (layout_of v) t, ap (λ l. cells l t) (layout_seen v), few)

are_fitting : (xs : List (Option Defined)) → AreLaid xs → AreFitting xs
are_fitting xs h s =
    let structs = structs_in xs in
    subst (λ n. FitsIn n (extent_kept (slice_get xs s))) (sym (cells_over xs h s))
    (subst (FitsIn (over 0 counted_all structs (length structs) s)) (sym (extents_over xs h s)) (over_fits structs (length structs) s))

pub fitting_there : (xs ys : List (Option Defined)) → ys ≡ xs → AreLaid xs → AreFitting ys
fitting_there xs ys p h = subst AreFitting (sym p) (are_fitting xs h)

pub few_there : (xs ys : List (Option Defined)) (ts : List CType) → ys ≡ xs → AreLaid xs → cells_of_all (structs_in xs) ts ≤ most_cells → counted_all (λ s. cells_kept (slice_get ys s)) ts ≤ most_cells
few_there xs ys ts p h few =
    subst (λ zs. counted_all (λ s. cells_kept (slice_get zs s)) ts ≤ most_cells) (sym p) (subst (λ n. n ≤ most_cells) (sym (cells_of_all_told xs h ts)) few)
