-- The kinds of undefined behaviour that memory and pointers meet, by their numbers. Those of operators are U1 to U3.
use Rattle.std.specs.Prelude.{ℕ}
pub use Rattle.c_tree.specs.Operators.{Answer, gives, undefined, and_then, U13}

-- an indeterminate cell is loaded (6.2.6.1 paragraph 5, 3.17.2)
abbrev pub U4 : ℕ
U4 = 4

-- a null pointer is dereferenced, called, added to, subtracted or ordered (6.5.3.2 paragraph 4, 6.5.2.2, 6.5.6, 6.5.8)
abbrev pub U5 : ℕ
U5 = 5

-- a pointer to an object that has ended is used (6.2.4 paragraph 2)
abbrev pub U6 : ℕ
U6 = 6

-- a pointer would leave its array and one past (6.5.6 paragraph 8)
abbrev pub U7 : ℕ
U7 = 7

-- a pointer one past the last element is dereferenced (6.5.6 paragraph 8)
abbrev pub U8 : ℕ
U8 = 8

-- pointers into different arrays are ordered or subtracted (6.5.6 paragraph 9, 6.5.8 paragraph 5)
abbrev pub U9 : ℕ
U9 = 9

-- a string literal is stored to (6.4.5 paragraph 6)
abbrev pub U10 : ℕ
U10 = 10

-- a function whose value is wanted ends without one (6.9.1 paragraph 12)
abbrev pub U11 : ℕ
U11 = 11

-- a string argument has no zero in its array, or a buffer has fewer elements left than the size that is asked
abbrev pub U12 : ℕ
U12 = 12
