use Rattle.certify.proofs.ClaimLemmas.{start_by}
use Rattle.certify.proofs.closed.is_start_known.Goals as goal

pub returns : goal.returns
returns c = start_by c.args.model.now c.args.judge c.args.known.now.keys c.start_of.result c.has_fact.result c.start_of.ensures.model c.start_of.ensures.start c.start_of.ensures.only c.has_fact.ensures
