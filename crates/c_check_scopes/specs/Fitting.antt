-- For private contracts and proofs alone: extents of at most four bytes for each cell.
use Rattle.std.specs.Prelude.{◌≡◌, ◌⊎◌, ◌+◌, ◌*◌, ◌≤◌, ℕ, List, Option, slice_get}
use Rattle.c_tree.specs.Tree.{CType}
use Rattle.c_tree.specs.Layout.{Extent}
use Rattle.c_rules.specs.Limits.{most_cells}
use Rattle.c_check_scopes.specs.declared.structs.Defined.{Defined}
use Rattle.c_check_scopes.specs.Measured.{cells_kept, counted_all, extent_kept}

-- an extent beside so many cells
pub record FitsIn (cells : ℕ) (e : Extent) : Type 0 where
  pub size : e.size ≤ 4 * cells
  pub alignment : (e.alignment ≡ 1) ⊎ (e.alignment ≡ 4)

-- what is kept of each struct
abbrev pub AreFitting : List (Option Defined) → Type 0
AreFitting structs = (s : ℕ) → FitsIn (cells_kept (slice_get structs s)) (extent_kept (slice_get structs s))

-- an extent of members, behind which members of these types are within the limit on the cells of a struct
abbrev pub HasRoom : (ℕ → ℕ) → Extent → List CType → Type 0
HasRoom f e ts = (n : ℕ) × FitsIn n e × (n + counted_all f ts ≤ most_cells)
