use Rattle.std.proofs.Common.{[]}
use Rattle.stack_automaton.specs.declared.place.Place.TheVariants.{Held}
use Rattle.stack_automaton.specs.Links.{functions_of}
use Rattle.stack_automaton.specs.Storing.{IsLinkEdge}
use Rattle.dm_base.proofs.AddingLemmas.{adds_step_at, adds_end, are_all}
use Rattle.stack_automaton.proofs.edges.link_edges.Goals as goal

pub loop-link-preserved : goal.loop-link-preserved
loop-link-preserved c = adds_step_at [] c.loop-link.edges.items c.push_link.new.edges.items (λ l e. IsLinkEdge (functions_of c.args.links.now) c.args.keys.now l e) c.args.list.now c.loop-link.link-index (record { site = 0; to = 0; place = Held 0 }) c.loop-link-test.true c.loop-link.invariant c.in_ok-push_link.ensures

pub returns : goal.returns
returns c = λ e.
    let all = are_all c.loop-link.edges.items _ (adds_end [] c.loop-link.edges.items (λ l e. IsLinkEdge (functions_of c.args.links.now) c.args.keys.now l e) c.args.list.now c.loop-link.link-index c.loop-link-test.false c.loop-link.invariant) e in
    let ordered = c.put_in_order.ensures e in
    (λ has. all.0 (ordered.0 has), λ is. ordered.1 (all.1 is))
