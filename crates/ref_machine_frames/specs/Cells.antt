-- The numbers of the cells of types and of structs. An object has at most 65,536.
use Rattle.std.specs.Prelude.{◌≡◌, ℕ, min, nat_le, if◌then◌else◌, List, length, get_or}
use Rattle.c_tree.specs.Tree.{CType, struct}
use Rattle.c_tree.specs.Layout.{Structs, cells}
use Rattle.c_values.specs.Answers.{Answer, gives, undefined, U13}

-- so many cells, where an object may have as many
abbrev pub few_cells : ℕ → Answer ℕ
few_cells n = if nat_le n 65536 then gives n else undefined U13

-- the number as it is kept: 65,537 stands for all that are greater
abbrev pub kept : ℕ → ℕ
kept n = min n 65537

-- each struct has the number with its place, and none past the end
abbrev pub AreCells : Structs → List ℕ → Type 0
AreCells structs counts = (s : ℕ) → get_or counts s 0 ≡ kept (cells structs (struct s))

-- the same where these are the types of the cells of structs
abbrev pub AreCounted : (ℕ → List CType) → List ℕ → Type 0
AreCounted layout counts = (s : ℕ) → get_or counts s 0 ≡ kept (length (layout s))
