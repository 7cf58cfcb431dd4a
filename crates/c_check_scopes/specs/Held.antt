-- The structs that objects of a type hold.
use Rattle.std.specs.Prelude.{◌≡◌, ℕ, List, [], ◌∷◌, Some, slice_get}
use Rattle.c_tree.specs.Tree.{CType, void, integer, pointer, array, struct, function}
use Rattle.c_tree.specs.Layout.{Structs}

-- the structs that objects of a type hold have this
abbrev pub AllIn : (ℕ → Type 0) → CType → Type 0
AllIn P void = Unit {0}
AllIn P (integer i) = Unit {0}
AllIn P (pointer t) = Unit {0}
AllIn P (array t n) = AllIn P t
AllIn P (struct s) = P s
AllIn P (function t ts) = Unit {0}

abbrev pub AllInAll : (ℕ → Type 0) → List CType → Type 0
AllInAll P [] = Unit {0}
AllInAll P (t ∷ ts) = AllIn P t × AllInAll P ts

-- the struct has a definition
abbrev pub IsDefined : Structs → ℕ → Type 0
IsDefined structs s = (ts : List CType) × (slice_get structs s ≡ Some (Some ts))
