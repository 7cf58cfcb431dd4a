-- For private contracts and proofs alone: cells and extents of types over those of structs.
use Rattle.std.specs.Prelude.{ℕ, ◌+◌, ◌*◌, List, [], ◌∷◌, Option, Some, None}
use Rattle.c_tree.specs.Tree.{CType, void, integer, pointer, array, struct, function}
use Rattle.c_tree.specs.Layout.{Extent}
use Rattle.c_check_scopes.specs.declared.structs.Defined.{Defined}
use Rattle.c_check_scopes.specs.Extents.{extent_seen}

-- the cells of a type
abbrev pub counted : (ℕ → ℕ) → CType → ℕ
counted f void = 0
counted f (integer i) = 1
counted f (pointer t) = 1
counted f (array t n) = n * counted f t
counted f (struct s) = f s
counted f (function t ts) = 0

abbrev pub counted_all : (ℕ → ℕ) → List CType → ℕ
counted_all f [] = 0
counted_all f (t ∷ ts) = counted f t + counted_all f ts

-- what is kept of each struct
abbrev pub cells_kept : Option (Option Defined) → ℕ
cells_kept None = 0
cells_kept (Some None) = 0
cells_kept (Some (Some d)) = d.cells

abbrev pub no_extent : Extent
no_extent = record { size = 0; alignment = 1 }

abbrev pub extent_kept : Option (Option Defined) → Extent
extent_kept None = no_extent
extent_kept (Some None) = no_extent
extent_kept (Some (Some d)) = extent_seen d.extent
