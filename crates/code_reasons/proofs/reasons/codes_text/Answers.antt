use Rattle.code_reasons.specs.Reasons.{reasons}
use Rattle.code_reasons.proofs.reasons.codes_text.Goals as goal

pub returns : goal.returns
unfolding reasons
returns c = c.lines_of.ensures
