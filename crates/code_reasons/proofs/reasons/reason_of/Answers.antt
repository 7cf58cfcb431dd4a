use Rattle.code_reasons.specs.Reasons.{reasons}
use Rattle.code_reasons.proofs.reasons.reason_of.Goals as goal

pub returns : goal.returns
unfolding reasons
returns c = c.reason_among.ensures
