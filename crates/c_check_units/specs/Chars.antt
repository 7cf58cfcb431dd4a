-- For private contracts and proofs alone: the cells of strings.
use Rattle.std.specs.Prelude.{ℕ, List, map, pos}
use Rattle.c_tree.specs.declared.value.IntType.TheVariants.{Char}
use Rattle.c_tree.specs.declared.value.Value.{Value}
use Rattle.c_tree.specs.Operators.{value_of}

abbrev pub char_of : ℕ → Value
char_of b = value_of Char (pos b)

abbrev pub chars : List ℕ → List Value
chars bytes = map char_of bytes
