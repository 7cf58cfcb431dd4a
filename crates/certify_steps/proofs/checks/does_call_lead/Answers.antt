use Rattle.std.proofs.Common.{refl}
use Rattle.certify_steps.proofs.CheckLemmas.{call_leads_by, no_call_leads}
use Rattle.certify_steps.proofs.checks.does_call_lead.Goals as goal

pub returns-in-Some : goal.returns-in-Some
returns-in-Some c = call_leads_by c.args.model.now c.args.site c.in-Some.call.now c.in-Some.ensures.some c.args.from c.args.to c.functions.result.now c.in-Some.call.now.candidates c.enters_at.result c.functions.ensures refl c.enters_at.ensures

pub returns-in-None : goal.returns-in-None
returns-in-None c = no_call_leads c.args.model.now c.args.site c.in-None.ensures.none c.args.from c.args.to
