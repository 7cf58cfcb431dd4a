use Rattle.certify_steps.proofs.CheckLemmas.{return_by, no_return}
use Rattle.certify_steps.proofs.checks.is_return.Goals as goal

pub returns-in-Some : goal.returns-in-Some
returns-in-Some c = return_by c.args.model.now c.args.site c.in-Some.call.now c.in-Some.ensures.some c.args.function c.args.node c.calls_to.result c.calls_to.ensures

pub returns-in-None : goal.returns-in-None
returns-in-None c = no_return c.args.model.now c.args.site c.in-None.ensures.none c.args.function c.args.node
