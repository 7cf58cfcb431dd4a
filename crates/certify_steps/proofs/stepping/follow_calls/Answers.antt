use Rattle.std.proofs.Common.{◌≡◌, [], sym}
use Rattle.certify_facts.proofs.Owning.{one_call}
use Rattle.certify_steps.specs.Stepping.{IsOfCall}
use Rattle.certify_steps.proofs.AddingLemmas.{adds_same, adds_nothing}
use Rattle.certify_steps.proofs.FollowLemmas.{by_sites, call_lines, no_calls}
use Rattle.certify_steps.proofs.stepping.follow_calls.Goals as goal

pub returns-in_ok-call_each_site : goal.returns-in_ok-call_each_site
returns-in_ok-call_each_site c = adds_same c.args.found.now.items c.call_each_site.new.found.items _ _
    (λ l. call_lines c.args.model.now [] c.args.number c.args.fact c.in-Some.node l (sym c.in-Some.ensures))
    (adds_same c.args.found.now.items c.call_each_site.new.found.items _ _
    (λ l. by_sites c.args.model.now c.sites_from.result.now (one_call c.args.model.now c.nodes-nodes.ensures.valid) (λ d. d.from ≡ c.in-Some.node) (λ d. IsOfCall c.args.model.now.functions c.args.number c.args.fact d l) c.sites_from.ensures)
    c.in_ok-call_each_site.ensures)

pub returns-in_default : goal.returns-in_default
returns-in_default c = adds_nothing c.args.found.now.items _ (λ l. no_calls c.args.model.now [] c.args.number c.args.fact l (sym c.in_default.ensures))
