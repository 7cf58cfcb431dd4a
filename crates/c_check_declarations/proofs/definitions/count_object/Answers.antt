use Rattle.std.proofs.Common.{arith}
use Rattle.c_check_declarations.proofs.definitions.count_object.Goals as goal

pub unreachable-requires : goal.unreachable-requires
unreachable-requires c = c.in-None.ensures (omega (arith, c.requires))
