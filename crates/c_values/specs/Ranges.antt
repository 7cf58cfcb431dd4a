-- For private contracts and proofs alone: results that may be out of range, and the number of bits of a shift.
use Rattle.std.specs.Prelude.{ℕ, ℤ, pos, Bool, true, false, ◌&&◌, int_le, unsigned_abs, Option, None, Some}
use Rattle.c_tree.specs.declared.value.Value.{Value}
use Rattle.c_tree.specs.declared.value.Value.TheVariants as v
use Rattle.c_values.specs.Answers.{Answer, gives, undefined}
use Rattle.c_tree.specs.Operators.{U1, U3}

-- an int, or none that is in range
abbrev pub ranged : Option ℤ → Answer Value
ranged None = undefined U1
ranged (Some z) = gives (v.Int z)

-- so many bits, where a shift by them is defined
abbrev pub shifting : Bool → ℕ → Answer ℕ
shifting true k = gives k
shifting false k = undefined U3

-- the number of bits of a shift
abbrev pub bits_of_shift : ℤ → Answer ℕ
bits_of_shift y = shifting (int_le (pos 0) y && int_le y (pos 31)) (unsigned_abs y)
