use Rattle.std.proofs.Common.{arith}
use Rattle.inline_model.proofs.EdgeLemmas.{number_right}
use Rattle.inline_model.proofs.growing.number_of.Goals as goal

pub overflow_sub-result : goal.overflow_sub-result
overflow_sub-result c = omega (arith, c.first_of-first.ensures, (number_right c.args.model.now c.args.item.now c.args.node c.requires.item c.requires.owns).0)

pub overflow_add-result : goal.overflow_add-result
overflow_add-result c = omega (arith, c.first_of-first.ensures, (number_right c.args.model.now c.args.item.now c.args.node c.requires.item c.requires.owns).1)
