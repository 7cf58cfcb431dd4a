use Rattle.std.proofs.Common.{sym}
use Rattle.std.proofs.lemmas.Result.{on_ok_weaker}
use Rattle.flow_graph.proofs.SequenceLemmas.{none_added, one_added}
use Rattle.flow_graph.proofs.sequence.add.Goals as goal

pub returns-then-is_nothing : goal.returns-then-is_nothing
returns-then-is_nothing c = none_added c.args.into.now.items c.args.part (sym c.if-is_nothing.ensures)

pub returns : goal.returns
returns c = on_ok_weaker c.push.result (one_added c.args.into.now.items c.push.new.into.items c.args.part (sym c.if-is_nothing.ensures)) c.push.ensures
