use Rattle.certify_steps.proofs.CheckLemmas.{exit_is, return_leads_by, no_return_leads}
use Rattle.certify_steps.proofs.checks.does_return_lead.Goals as goal

pub returns-in-Some : goal.returns-in-Some
returns-in-Some c = return_leads_by c.args.model.now c.args.site c.in-Some.function c.args.from c.args.to c.is_return.result ((exit_is c.args.model.now c.in-Some.function c.args.from).0 c.in-Some.ensures.some)
    (λ f exit. c.in-Some.ensures.only f ((exit_is c.args.model.now f c.args.from).1 exit)) c.is_return.ensures

pub returns-in-None : goal.returns-in-None
returns-in-None c = no_return_leads c.args.model.now c.args.site c.args.from c.args.to (λ f exit. c.in-None.ensures.only f ((exit_is c.args.model.now f c.args.from).1 exit))
