use Rattle.std.proofs.Common.{arith}
use Rattle.certify.proofs.ClaimLemmas.{accepted_by}
use Rattle.certify.proofs.claim.is_accepted.Goals as goal

pub returns : goal.returns
returns c = accepted_by c.args.trace.now c.args.events c.args.lines.now c.has_after.result (omega arith) c.has_after.ensures
