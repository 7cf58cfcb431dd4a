use Rattle.flow_graph.proofs.ArgumentLemmas.{all_known}
use Rattle.flow_graph.proofs.arguments.pattern_of.Goals as goal

pub returns : goal.returns
returns c = all_known c.args.name c.argument_kinds-kinds.result.now c.args.arguments.now c.loop-i.i c.loop-i.pattern c.argument_kinds-kinds.ensures.kinds c.loop-i-test.false c.loop-i.invariant
