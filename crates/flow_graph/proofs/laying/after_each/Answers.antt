use Rattle.std.proofs.Common.{arith}
use Rattle.flow_graph.proofs.LayingLemmas.{parts_many}
use Rattle.flow_graph.proofs.laying.after_each.Goals as goal

pub overflow_cast-many : goal.overflow_cast-many
overflow_cast-many c = let k = parts_many c.args.parts.now in omega (arith, k, c.requires)

pub overflow_add-result : goal.overflow_add-result
overflow_add-result c = let k = parts_many c.args.parts.now in omega (arith, k, c.requires)

pub returns : goal.returns
returns c = let k = parts_many c.args.parts.now in omega (arith, k)
