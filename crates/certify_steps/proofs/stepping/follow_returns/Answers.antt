use Rattle.std.proofs.Common.{◌≡◌, ℕ, [], Contains, sym, subst}
use Rattle.certify_facts.specs.declared.fact.Fact.TheVariants.{Callgraph}
use Rattle.certify_facts.specs.declared.fact.Reason.TheVariants.{Return}
use Rattle.certify_facts.specs.Reasons.{IsReturned}
use Rattle.certify_facts.proofs.Owning.{one_call}
use Rattle.certify_steps.specs.Adding.{Adds}
use Rattle.certify_steps.specs.Stepping.{IsOfReturn}
use Rattle.certify_steps.proofs.AddingLemmas.{adds_same, adds_nothing}
use Rattle.certify_steps.proofs.FollowLemmas.{by_sites, return_lines, no_returns}
use Rattle.certify_steps.proofs.stepping.follow_returns.Goals as goal

pub returns-in_ok-return_to_each : goal.returns-in_ok-return_to_each
returns-in_ok-return_to_each c =
    let sites = by_sites c.args.model.now c.sites_into.result.now (one_call c.args.model.now c.nodes-nodes.ensures.valid) (λ d. Contains d.candidates c.in-Some.function) in
    subst (λ x. Adds c.args.found.now.items c.return_to_each.new.found.items (λ l. (s : ℕ) × (l.reason ≡ Return c.args.number s) × IsReturned c.args.model.now s x l.fact)) (sym c.in-Callgraph.is)
    (adds_same c.args.found.now.items c.return_to_each.new.found.items _ _ (λ l. return_lines c.args.model.now [] c.args.number c.in-Callgraph.k c.in-Callgraph.v c.in-Some.function l c.in-Some.ensures.some c.in-Some.ensures.only)
    (adds_same c.args.found.now.items c.return_to_each.new.found.items _ _ (λ l. sites (λ d. IsOfReturn c.args.number (Callgraph c.in-Callgraph.k c.in-Callgraph.v) d l) c.sites_into.ensures)
    c.in_ok-return_to_each.ensures))

pub returns-in_default-ending_at : goal.returns-in_default-ending_at
returns-in_default-ending_at c =
    subst (λ x. Adds c.args.found.now.items c.args.found.now.items (λ l. (s : ℕ) × (l.reason ≡ Return c.args.number s) × IsReturned c.args.model.now s x l.fact)) (sym c.in-Callgraph.is)
    (adds_nothing c.args.found.now.items _ (λ l. no_returns c.args.model.now [] c.args.number c.in-Callgraph.k c.in-Callgraph.v l c.in_default-ending_at.ensures.only))
