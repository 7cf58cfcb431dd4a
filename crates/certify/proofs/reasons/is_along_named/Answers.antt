use Rattle.std.proofs.Common.{take}
use Rattle.certify_facts.specs.Confirms.{facts_of}
use Rattle.certify_facts.specs.Reasons.{IsReturnedAlong}
use Rattle.certify.proofs.ReasonLemmas.{reason_some, reason_none}
use Rattle.certify.proofs.reasons.is_along_named.Goals as goal

pub returns-in-Some : goal.returns-in-Some
returns-in-Some c = reason_some (facts_of (take c.args.before c.args.lines.now)) c.args.number (λ z. IsReturnedAlong c.args.model.now c.args.x z c.args.y) c.in-Some.z c.is_along.result c.in-Some.ensures c.is_along.ensures

pub returns-in-None : goal.returns-in-None
returns-in-None c = reason_none (facts_of (take c.args.before c.args.lines.now)) c.args.number (λ z. IsReturnedAlong c.args.model.now c.args.x z c.args.y) c.in-None.ensures
