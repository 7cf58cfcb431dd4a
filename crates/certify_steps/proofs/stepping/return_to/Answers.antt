use Rattle.certify_steps.specs.Stepping.{IsOfReturn}
use Rattle.certify_steps.proofs.AddingLemmas.{adds_nothing}
use Rattle.certify_steps.proofs.FollowLemmas.{no_site, site_returned}
use Rattle.certify_steps.proofs.stepping.return_to.Goals as goal

pub returns-in_ok-add : goal.returns-in_ok-add
returns-in_ok-add c = site_returned c.args.model.now c.args.site c.in-Some.call.now c.in-Some.ensures.some c.args.found.now.items c.add.new.found.items c.args.number c.args.fact c.moved.result c.site.result c.to.result
    c.moved.ensures c.site.ensures c.to.ensures c.in_ok-add.ensures

pub returns-in_default : goal.returns-in_default
returns-in_default c = adds_nothing c.args.found.now.items _ (λ l. no_site c.args.model.now c.args.site (λ d. IsOfReturn c.args.number c.args.fact d l) c.in_default.ensures.none)
