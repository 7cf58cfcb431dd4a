use Rattle.inline_model.proofs.EdgeLemmas.{stands_at}
use Rattle.inline_model.proofs.growing.call_of.Goals as goal

pub returns : goal.returns
returns c = stands_at c.args.model.now.calls c.calls.result.now c.args.place c.index-calls-place.result c.calls.ensures c.requires c.index-calls-place.is
