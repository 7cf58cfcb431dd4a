-- The layout of objects: the cells of a type, its size and its alignment (6.2.6.1, 6.5.3.4, 6.7.2.1).
use Rattle.std.specs.Prelude.{ℕ, zero, suc, ◌+◌, ◌-◌, ◌*◌, ◌/◌, List, [], ◌∷◌, ◌++◌, length, max, Option, Some, None, slice_get}
use Rattle.c_tree.specs.declared.value.IntType.{IntType}
use Rattle.c_tree.specs.declared.value.IntType.TheVariants.{Char, Uchar, Int, Uint}
use Rattle.c_tree.specs.Tree.{CType, void, integer, pointer, array, struct, function}

-- the members' types of each struct, where it has a definition
abbrev pub Structs : Type 0
Structs = List (Option (List CType))

-- the members of a struct, none where it has no definition
abbrev pub or_none : Option (Option (List CType)) → List CType
or_none None = []
or_none (Some None) = []
or_none (Some (Some ts)) = ts

-- the members of the struct with this number
abbrev pub members_of : Structs → ℕ → List CType
members_of structs s = or_none (slice_get structs s)

-- so many copies of a list, joined
abbrev pub repeat : {A : Type 0} → ℕ → List A → List A
repeat zero xs = []
repeat (suc n) xs = xs ++ repeat n xs

-- the types of the cells of a type, in order: each scalar is one cell, an array's elements and a struct's members follow each other
abbrev pub flat_with : (ℕ → List CType) → CType → List CType
flat_with layout void = []
flat_with layout (integer i) = integer i ∷ []
flat_with layout (pointer t) = pointer t ∷ []
flat_with layout (array t n) = repeat n (flat_with layout t)
flat_with layout (struct s) = layout s
flat_with layout (function t ts) = []

abbrev pub flat_all_with : (ℕ → List CType) → List CType → List CType
flat_all_with layout [] = []
flat_all_with layout (t ∷ ts) = flat_with layout t ++ flat_all_with layout ts

-- the types of the cells of a struct that holds structs at most so many deep
abbrev pub layout : Structs → ℕ → ℕ → List CType
layout structs zero s = []
layout structs (suc depth) s = flat_all_with (layout structs depth) (members_of structs s)

-- the types of the cells of each struct; none holds others deeper than there are structs
abbrev pub struct_cells : Structs → ℕ → List CType
struct_cells structs s = layout structs (length structs) s

-- the types of the cells of a type, in order
abbrev pub flat : Structs → CType → List CType
flat structs t = flat_with (struct_cells structs) t

-- the types of the cells of several objects, one after the other
abbrev pub flat_all : Structs → List CType → List CType
flat_all structs ts = flat_all_with (struct_cells structs) ts

-- how many cells an object of the type has
abbrev pub cells : Structs → CType → ℕ
cells structs t = length (flat structs t)

-- how many cells objects of these types have together
abbrev pub cells_of_all : Structs → List CType → ℕ
cells_of_all structs ts = length (flat_all structs ts)

-- the first cell of the member with this number
abbrev pub first_cell : Structs → List CType → ℕ → ℕ
first_cell structs [] i = 0
first_cell structs (t ∷ ts) zero = 0
first_cell structs (t ∷ ts) (suc i) = cells structs t + first_cell structs ts i

-- the bytes that an object takes, and the number of which its address is a multiple
pub record Extent : Type 0 where
  pub size : ℕ
  pub alignment : ℕ

-- the next multiple of an alignment
abbrev pub round_up : ℕ → ℕ → ℕ
round_up size alignment = (size + (alignment - 1)) / alignment * alignment

abbrev pub extent_of_integer : IntType → Extent
extent_of_integer Char = record { size = 1; alignment = 1 }
extent_of_integer Uchar = record { size = 1; alignment = 1 }
extent_of_integer Int = record { size = 4; alignment = 4 }
extent_of_integer Uint = record { size = 4; alignment = 4 }

-- a member after others: at the next multiple of its alignment
abbrev pub put_after : Extent → Extent → Extent
put_after before m =
    record { size = round_up before.size m.alignment + m.size; alignment = max before.alignment m.alignment }

-- void and functions have no size
abbrev pub extent_with : (ℕ → Extent) → CType → Extent
extent_with of_struct void = record { size = 0; alignment = 1 }
extent_with of_struct (integer i) = extent_of_integer i
extent_with of_struct (pointer t) = record { size = 4; alignment = 4 }
extent_with of_struct (array t n) = record { size = n * (extent_with of_struct t).size; alignment = (extent_with of_struct t).alignment }
extent_with of_struct (struct s) = of_struct s
extent_with of_struct (function t ts) = record { size = 0; alignment = 1 }

-- the members so far, and then these
abbrev pub extent_after : (ℕ → Extent) → Extent → List CType → Extent
extent_after of_struct before [] = before
extent_after of_struct before (t ∷ ts) = extent_after of_struct (put_after before (extent_with of_struct t)) ts

-- a struct is as large as its members, rounded up to its greatest alignment
abbrev pub rounded : Extent → Extent
rounded e = record { size = round_up e.size e.alignment; alignment = e.alignment }

-- the extent of a struct that holds structs at most so many deep
abbrev pub struct_extent : Structs → ℕ → ℕ → Extent
struct_extent structs zero s = record { size = 0; alignment = 1 }
struct_extent structs (suc depth) s = rounded (extent_after (struct_extent structs depth) (record { size = 0; alignment = 1 }) (members_of structs s))

abbrev pub extent : Structs → CType → Extent
extent structs t = extent_with (struct_extent structs (length structs)) t

-- what sizeof gives (6.5.3.4)
abbrev pub sizeof : Structs → CType → ℕ
sizeof structs t = (extent structs t).size

abbrev pub alignment : Structs → CType → ℕ
alignment structs t = (extent structs t).alignment
