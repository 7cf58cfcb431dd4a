use Rattle.certify.proofs.KnownLemmas.{equal_is}
use Rattle.certify.proofs.reasons.are_equal.Goals as goal

pub returns : goal.returns
returns c = equal_is c.args.x c.args.y c.eq.result c.eq.ensures
