use Rattle.inline_model.proofs.EdgeLemmas.{stands_at}
use Rattle.inline_model.proofs.growing.function_of.Goals as goal

pub returns : goal.returns
returns c = stands_at c.args.model.now.functions c.functions.result.now c.args.place c.index-functions-place.result c.functions.ensures c.requires c.index-functions-place.is
