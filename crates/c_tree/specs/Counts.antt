-- Counts of the cells of structs.
use Rattle.std.specs.Prelude.{◌≡◌, ℕ, List, Some, slice_get}
use Rattle.c_tree.specs.Tree.{CType, struct}
use Rattle.c_tree.specs.Layout.{Structs, cells}

-- for each struct that has a definition there is the number of its cells
abbrev pub AreCounts : Structs → List ℕ → Type 0
AreCounts structs counts = (s : ℕ) (ts : List CType) → slice_get structs s ≡ Some (Some ts) → slice_get counts s ≡ Some (cells structs (struct s))
