-- Types (6.2.5): which of them are integers, pointers and scalars, which are the same, and how many parts they have.
use Rattle.std.specs.Prelude.{ℕ, suc, ◌+◌, Bool, true, false, ◌&&◌, nat_eq}
use Rattle.c_tree.specs.declared.value.IntType.{IntType}
use Rattle.c_tree.specs.declared.value.IntType.TheVariants.{Char, Uchar, Int, Uint}
use Rattle.c_tree.specs.Tree.{CType, void, integer, pointer, array, struct, function, CTypes, no_types, more_types}

abbrev pub same_integer : IntType → IntType → Bool
same_integer Char Char = true
same_integer Uchar Uchar = true
same_integer Int Int = true
same_integer Uint Uint = true
same_integer i j = false

-- types are compared by their form; const isn't kept, and an enumerated type is int (6.2.7)
abbrev mutual
  pub same_type : CType → CType → Bool
  same_type void void = true
  same_type (integer i) (integer j) = same_integer i j
  same_type (pointer t) (pointer u) = same_type t u
  same_type (array t m) (array u n) = same_type t u && nat_eq m n
  same_type (struct s) (struct r) = nat_eq s r
  same_type (function t ts) (function u us) = same_type t u && same_types ts us
  same_type t u = false

  pub same_types : CTypes → CTypes → Bool
  same_types no_types no_types = true
  same_types (more_types t ts) (more_types u us) = same_type t u && same_types ts us
  same_types ts us = false

abbrev pub is_integer : CType → Bool
is_integer (integer i) = true
is_integer t = false

abbrev pub is_void : CType → Bool
is_void void = true
is_void t = false

abbrev pub is_function : CType → Bool
is_function (function t ts) = true
is_function t = false

-- an integer or a pointer (6.2.5 paragraph 21)
abbrev pub is_scalar : CType → Bool
is_scalar (integer i) = true
is_scalar (pointer t) = true
is_scalar t = false

-- what a function may give (6.9.1 paragraph 3): nothing or a scalar, since structs are not passed as values
abbrev pub is_result : CType → Bool
is_result void = true
is_result (integer i) = true
is_result (pointer t) = true
is_result t = false

-- the pointers, arrays, functions and parameters of which a type is made
abbrev mutual
  pub parts : CType → ℕ
  parts void = 0
  parts (integer i) = 0
  parts (pointer t) = 1 + parts t
  parts (array t n) = 1 + parts t
  parts (struct s) = 0
  parts (function t ts) = 1 + (parts t + parts_of_all ts)

  pub parts_of_all : CTypes → ℕ
  parts_of_all no_types = 0
  parts_of_all (more_types t ts) = 1 + (parts t + parts_of_all ts)

abbrev pub count : CTypes → ℕ
count no_types = 0
count (more_types t ts) = suc (count ts)

-- an array without a size has the size 0; nothing but a declared object has such a type (6.7.5.2 paragraph 4)
abbrev pub unsized : CType → CType
unsized t = array t 0

-- a parameter of array or function type is a pointer (6.7.5.3 paragraphs 7 and 8)
abbrev pub adjusted : CType → CType
adjusted (array t n) = pointer t
adjusted (function t ts) = pointer (function t ts)
adjusted t = t
