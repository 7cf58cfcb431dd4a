-- For private contracts and proofs alone: the byte in one cell.
use Rattle.std.specs.Prelude.{ℕ}
use Rattle.c_tree.specs.declared.value.Value.{Value}
use Rattle.c_tree.specs.declared.value.Value.TheVariants.{Indeterminate, Int, Uint, Char, Uchar, Null, Func, At}
use Rattle.c_values.specs.Answers.{Answer, gives, undefined, U4, U13}
use Rattle.c_meaning.specs.SystemCalls.{byte_of}

-- the byte in a char cell, which has to be set
abbrev pub byte_in : Value → Answer ℕ
byte_in Indeterminate = undefined U4
byte_in (Int z) = undefined U13
byte_in (Uint n) = undefined U13
byte_in (Char c) = gives (byte_of c)
byte_in (Uchar n) = undefined U13
byte_in Null = undefined U13
byte_in (Func f) = undefined U13
byte_in (At q) = undefined U13
