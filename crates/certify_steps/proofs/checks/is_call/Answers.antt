use Rattle.certify_steps.proofs.CheckLemmas.{call_by, no_call}
use Rattle.certify_steps.proofs.checks.is_call.Goals as goal

pub returns-in-Some : goal.returns-in-Some
returns-in-Some c = call_by c.args.model.now c.args.site c.in-Some.call.now c.in-Some.ensures.some c.args.node c.args.function c.calls_from.result c.calls_from.ensures

pub returns-in-None : goal.returns-in-None
returns-in-None c = no_call c.args.model.now c.args.site c.in-None.ensures.none c.args.node c.args.function
