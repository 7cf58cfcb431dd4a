use Rattle.std.proofs.Common.{bit_and, bit_or, bit_xor, of_z, w32}
use Rattle.std.proofs.lemmas.Nat.{or_of_32, xor_of_32}
use Rattle.c_values.proofs.WordLemmas.{bits_fit, and_fits, bits_of_ints}
use Rattle.c_values.proofs.int_operators.on_ints.Goals as goal

pub returns-in-BitAnd : goal.returns-in-BitAnd
returns-in-BitAnd c =
    rw c.in-BitAnd.is (bits_of_ints bit_and c.args.x c.args.y c.ranges.x c.ranges.y (and_fits (of_z w32 c.args.x) (of_z w32 c.args.y) (bits_fit c.args.x c.ranges.x)))

pub returns-in-BitXor : goal.returns-in-BitXor
returns-in-BitXor c =
    rw c.in-BitXor.is (bits_of_ints bit_xor c.args.x c.args.y c.ranges.x c.ranges.y (xor_of_32 (of_z w32 c.args.x) (of_z w32 c.args.y) (bits_fit c.args.x c.ranges.x) (bits_fit c.args.y c.ranges.y)))

pub returns-in-BitOr : goal.returns-in-BitOr
returns-in-BitOr c =
    rw c.in-BitOr.is (bits_of_ints bit_or c.args.x c.args.y c.ranges.x c.ranges.y (or_of_32 (of_z w32 c.args.x) (of_z w32 c.args.y) (bits_fit c.args.x c.ranges.x) (bits_fit c.args.y c.ranges.y)))
