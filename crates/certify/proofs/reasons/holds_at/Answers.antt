use Rattle.certify.proofs.ReasonLemmas.{holds_by}
use Rattle.certify.proofs.reasons.holds_at.Goals as goal

pub returns : goal.returns
returns c = holds_by c.args.model.now c.args.trace.now c.args.lines.now c.args.place _ c.has_reason.result c.requires c.has_reason.ensures
