use Rattle.std.proofs.Common.{◌^◌, ◌<◌, bit_or, bit_xor, arith}
use Rattle.std.proofs.lemmas.Nat.{or_of_32, xor_of_32}
use Rattle.c_values.proofs.WordLemmas.{bits_of_words}
use Rattle.c_values.proofs.unsigned_operators.on_unsigned.Goals as goal

pub returns-in-BitXor : goal.returns-in-BitXor
returns-in-BitXor c =
    let m : c.args.m < 2 ^ 32 = omega arith in
    let n : c.args.n < 2 ^ 32 = omega arith in
    rw c.in-BitXor.is (bits_of_words bit_xor c.args.m c.args.n m n (xor_of_32 c.args.m c.args.n m n))

pub returns-in-BitOr : goal.returns-in-BitOr
returns-in-BitOr c =
    let m : c.args.m < 2 ^ 32 = omega arith in
    let n : c.args.n < 2 ^ 32 = omega arith in
    rw c.in-BitOr.is (bits_of_words bit_or c.args.m c.args.n m n (or_of_32 c.args.m c.args.n m n))
