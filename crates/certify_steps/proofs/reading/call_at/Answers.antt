use Rattle.std.proofs.Common.{sym}
use Rattle.certify_steps.proofs.ReadingLemmas.{call_is, call_is_not}
use Rattle.certify_steps.proofs.reading.call_at.Goals as goal

pub returns-in-Some-clause-some : goal.returns-in-Some-clause-some
returns-in-Some-clause-some c = call_is c.args.model.now c.nodes-nodes.ensures.valid c.args.site c.in-Some.call.now (sym c.in-Some.ensures)

pub returns-in-None-clause-none : goal.returns-in-None-clause-none
returns-in-None-clause-none c = call_is_not c.args.model.now c.nodes-nodes.ensures.valid c.args.site (sym c.in-None.ensures)
