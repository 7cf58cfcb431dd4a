-- The objects of a well-typed program.
use Rattle.std.proofs.Common.{◌≡◌, ℕ, ◌≤◌, ◌<◌, length, List, get_or, subst, arith}
use Rattle.std.specs.Prelude.{All, map}
use Rattle.std.proofs.lemmas.List.{length-map, get_or-map}
use Rattle.std.proofs.lemmas.Slice.Zip.{AllZip-long}
use Rattle.c_tree.specs.declared.tree.Static.{Static as StaticTree}
use Rattle.c_tree.specs.Tree.{Program}
use Rattle.c_tree.specs.View.{static_of}
use Rattle.c_tree.specs.Layout.{flat}
use Rattle.c_tree.specs.Kinds.{HasType, static_objects}
use Rattle.c_tree.specs.Program.{IsStatic}

few_cells : (p : Program) (s : StaticTree) → IsStatic p (static_of s) → length s.cells.items ≤ 65536
few_cells p s h =
    let same : length s.cells.items ≡ length (flat p.structs (static_of s).ctype) = AllZip-long (HasType p (static_objects p)) (flat p.structs (static_of s).ctype) s.cells.items h.typed in
    let few = h.object.few in
    omega (arith, same, few)

pub small_statics : (p : Program) (ss : List StaticTree) → All (IsStatic p) (map static_of ss) → All (λ (s : StaticTree). length s.cells.items ≤ 65536) ss
small_statics p ss h k d lt =
    let within : k < length (map static_of ss) = omega (arith, lt, length-map ss static_of) in
    few_cells p (get_or ss k d) (subst (IsStatic p) (get_or-map static_of ss k d (static_of d) lt) (h k (static_of d) within))

pub few_statics : (ss : List StaticTree) (n : ℕ) → length (map static_of ss) < n → length ss < n
few_statics ss n h = omega (arith, h, length-map ss static_of)
