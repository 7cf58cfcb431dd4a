-- Which values a machine can hold: the numbers of a pointer are below 2^32, and an int is in range.
use Rattle.std.specs.Prelude.{◌^◌, nat_lt, if◌then◌else◌}
use Rattle.c_tree.specs.declared.value.Value.{Value}
use Rattle.c_tree.specs.declared.value.Value.TheVariants.{Indeterminate, Int, Uint, Char, Uchar, Null, Func, At}
use Rattle.c_tree.specs.Operators.{fits_int}
use Rattle.c_values.specs.Answers.{Answer, gives, undefined, and_then, U13}

-- the value, where its numbers fit; a run of a well-typed program, whose objects have at most 65,536 cells, needs no others
abbrev pub in_words : Value → Answer Value
in_words Indeterminate = gives Indeterminate
in_words (Int z) = if fits_int z then gives (Int z) else undefined U13
in_words (Uint n) = gives (Uint n)
in_words (Char z) = gives (Char z)
in_words (Uchar n) = gives (Uchar n)
in_words Null = gives Null
in_words (Func f) = gives (Func f)
in_words (At q) = if nat_lt q.first (2 ^ 32) then gives (At q) else undefined U13

-- the answer, where a machine can hold its value
abbrev pub held : Answer Value → Answer Value
held a = and_then a in_words
