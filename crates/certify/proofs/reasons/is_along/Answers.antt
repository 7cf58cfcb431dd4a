use Rattle.certify.proofs.ReasonLemmas.{along_some, along_none}
use Rattle.certify.proofs.reasons.is_along.Goals as goal

pub returns-in-Some : goal.returns-in-Some
returns-in-Some c = along_some c.args.model.now c.args.x c.args.z c.args.y c.in-Some.found c.are_equal.result c.in-Some.ensures.some c.in-Some.ensures.only c.are_equal.ensures

pub returns-in-None : goal.returns-in-None
returns-in-None c = along_none c.args.model.now c.args.x c.args.z c.args.y c.in-None.ensures.only
