use Rattle.inline_model.proofs.InliningLemmas.{start_stands}
use Rattle.inline_model.proofs.building.start_of.Goals as goal

pub returns : goal.returns
returns c = start_stands c.args.model.now c.functions.result.now c.start.result c.index-functions-start.result c.functions.ensures c.start.ensures.start c.start.ensures.known c.index-functions-start.is
