use Rattle.std.proofs.Common.{[]}
use Rattle.stack_automaton.specs.declared.place.Place.TheVariants.{Held}
use Rattle.stack_automaton.specs.Links.{functions_of}
use Rattle.stack_automaton.specs.Storing.{IsTopEdge}
use Rattle.dm_base.proofs.AddingLemmas.{adds_step_at, adds_end, are_all}
use Rattle.stack_automaton.proofs.edges.tops.Goals as goal

pub loop-fact-preserved : goal.loop-fact-preserved
loop-fact-preserved c = adds_step_at [] c.loop-fact.edges.items c.push_top.new.edges.items (λ x e. IsTopEdge (functions_of c.args.links.now) c.args.keys.now x e) c.args.facts.now c.loop-fact.fact-index (record { node = 0; place = Held 0 }) c.loop-fact-test.true c.loop-fact.invariant c.in_ok-push_top.ensures

pub returns : goal.returns
returns c = λ e.
    let all = are_all c.loop-fact.edges.items _ (adds_end [] c.loop-fact.edges.items (λ x e. IsTopEdge (functions_of c.args.links.now) c.args.keys.now x e) c.args.facts.now c.loop-fact.fact-index c.loop-fact-test.false c.loop-fact.invariant) e in
    let ordered = c.put_in_order.ensures e in
    (λ has. all.0 (ordered.0 has), λ is. ordered.1 (all.1 is))
