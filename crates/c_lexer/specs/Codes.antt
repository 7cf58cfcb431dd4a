-- The numbers of the codes.
use Rattle.std.specs.Prelude.{ℕ}
use Rattle.c_lexer.specs.declared.error.Cause.{Cause}
use Rattle.c_lexer.specs.declared.error.Cause.TheVariants.{ForeignByte, OpenComment, Malformed, TooLarge, NoLineMarker, ExcludedKeyword}

-- the number of a cause's code
abbrev pub code_of : Cause → ℕ
code_of ForeignByte = 1
code_of OpenComment = 2
code_of Malformed = 3
code_of TooLarge = 4
code_of NoLineMarker = 5
code_of ExcludedKeyword = 6
