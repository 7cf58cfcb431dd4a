use Rattle.std.proofs.Common.{◌*◌, ◌≤◌, arith}
use Rattle.std.proofs.lemmas.Nat.{mul-le}
use Rattle.generated_program.proofs.records.square.Goals as goal

pub overflow_mul-result : goal.overflow_mul-result
overflow_mul-result c =
    let h : c.args.n * c.args.n ≤ 500 * 500 = mul-le c.args.n c.args.n 500 500 c.requires c.requires in
    omega (arith, h)
