use Rattle.std.proofs.Common.{take}
use Rattle.certify_facts.specs.Confirms.{facts_of}
use Rattle.certify_facts.specs.Reasons.{IsRead}
use Rattle.certify.proofs.ReasonLemmas.{reason_some, reason_none}
use Rattle.certify.proofs.reasons.has_event.Goals as goal

pub returns-in-Some : goal.returns-in-Some
returns-in-Some c = reason_some (facts_of (take c.args.before c.args.lines.now)) c.args.number (λ x. IsRead c.args.model.now c.args.trace.now x c.args.y) c.in-Some.x c.is_read.result c.in-Some.ensures c.is_read.ensures

pub returns-in-None : goal.returns-in-None
returns-in-None c = reason_none (facts_of (take c.args.before c.args.lines.now)) c.args.number (λ x. IsRead c.args.model.now c.args.trace.now x c.args.y) c.in-None.ensures
