use Rattle.std.proofs.Common.{take}
use Rattle.certify_facts.specs.Confirms.{facts_of}
use Rattle.certify_facts.specs.Reasons.{IsReturned}
use Rattle.certify.proofs.ReasonLemmas.{reason_some, reason_none}
use Rattle.certify.proofs.reasons.has_site_return.Goals as goal

pub returns-in-Some : goal.returns-in-Some
returns-in-Some c = reason_some (facts_of (take c.args.before c.args.lines.now)) c.args.number (λ x. IsReturned c.args.model.now c.args.site x c.args.y) c.in-Some.x c.is_returned.result c.in-Some.ensures c.is_returned.ensures

pub returns-in-None : goal.returns-in-None
returns-in-None c = reason_none (facts_of (take c.args.before c.args.lines.now)) c.args.number (λ x. IsReturned c.args.model.now c.args.site x c.args.y) c.in-None.ensures
