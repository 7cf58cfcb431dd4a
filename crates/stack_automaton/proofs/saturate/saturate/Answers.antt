use Rattle.std.proofs.Common.{◌≡◌, ap, ◌<◌, ◌≤◌, length, get_or, subst}
use Rattle.slab.specs.Slab.{get}
use Rattle.stack_automaton.proofs.SaturationLemmas.{followed_none, followed_more, followed_facts, followed_links}
use Rattle.stack_automaton.proofs.saturate.saturate.Goals as goal

pub loop-fact-init : goal.loop-fact-init
loop-fact-init c = followed_none c.args.model.now (get c.args.states.now) c.args.begin.keys c.clear.new.self c.clear-2.new.self.keys c.requires c.clear.ensures (ap length c.clear-2.ensures.empty)

pub loop-fact-preserved : goal.loop-fact-preserved
loop-fact-preserved c =
    let at = c.in-Some.ensures.lookup in
    followed_more c.args.model.now (get c.args.states.now) c.args.begin.keys c.loop-fact.facts.keys c.follow_fact.new.facts.keys c.loop-fact.links c.follow_fact.new.links c.loop-fact.ended.keys c.follow_fact.new.ended.keys c.loop-fact.i c.in-Some.field-0.now
    (subst (λ ks. c.loop-fact.i < length ks) c.as_slice.ensures at.3.0) (subst (λ ks. c.in-Some.field-0.now ≡ get_or ks c.loop-fact.i c.in-Some.field-0.now) c.as_slice.ensures at.1) c.loop-fact.invariant
    c.in_ok-follow_fact.ensures.ended c.in_ok-follow_fact.ensures.links c.in_ok-follow_fact.ensures.facts

pub returns : goal.returns
returns c =
    let over = subst (λ ks. length ks ≤ c.loop-fact.i) c.as_slice.ensures c.in_default.ensures.lookup.3 in record {
      facts = followed_facts c.args.model.now c.nodes-nodes.ensures.valid (get c.args.states.now) c.args.begin.keys c.loop-fact.facts.keys c.loop-fact.links c.loop-fact.ended.keys c.loop-fact.i over c.loop-fact.invariant;
      links = followed_links c.args.model.now c.nodes-nodes.ensures.valid (get c.args.states.now) c.args.begin.keys c.loop-fact.facts.keys c.loop-fact.links c.loop-fact.ended.keys c.loop-fact.i over c.loop-fact.invariant;
    }
