use Rattle.certify_steps.specs.Stepping.{IsOfCall}
use Rattle.certify_steps.proofs.AddingLemmas.{adds_nothing}
use Rattle.certify_steps.proofs.FollowLemmas.{site_called, no_site}
use Rattle.certify_steps.proofs.stepping.call_site.Goals as goal

pub returns-in_ok-call_each : goal.returns-in_ok-call_each
returns-in_ok-call_each c = site_called c.args.model.now c.args.site c.in-Some.call.now c.in-Some.ensures.some c.args.found.now.items c.call_each.new.found.items c.functions.result.now c.args.number c.args.fact c.site.result c.candidates.result.now
    c.functions.ensures c.site.ensures c.candidates.ensures c.in_ok-call_each.ensures

pub returns-in_default : goal.returns-in_default
returns-in_default c = adds_nothing c.args.found.now.items _ (λ l. no_site c.args.model.now c.args.site (λ d. IsOfCall c.args.model.now.functions c.args.number c.args.fact d l) c.in_default.ensures.none)
