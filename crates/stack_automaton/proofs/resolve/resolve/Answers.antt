use Rattle.std.proofs.Common.{◌∙◌}
use Rattle.slab.specs.Slab.{get}
use Rattle.stack_automaton.proofs.GrowingLemmas.{grows_trans}
use Rattle.stack_automaton.proofs.ResolvingLemmas.{resolved_none}
use Rattle.stack_automaton.proofs.resolve.resolve.Goals as goal

pub resolve_as_found-requires-clause-resolved : goal.resolve_as_found-requires-clause-resolved
resolve_as_found-requires-clause-resolved c =
    resolved_none (get c.args.states.now) c.begin.new.keys.items c.begin.new.known.keys c.args.links.now (c.in_ok-begin.ensures.long ∙ c.len.ensures) c.begin.ensures.none

pub resolve_in_order-requires-clause-held : goal.resolve_in_order-requires-clause-held
resolve_in_order-requires-clause-held c = λ f q l has at.
    let (edges, is) = c.requires.held f q l has at in
    (edges, c.resolve_as_found.ensures.grows.kept q edges is)

pub returns-clause-grows : goal.returns-clause-grows
returns-clause-grows c = grows_trans (get c.args.states.now) (get c.resolve_as_found.new.states) (get c.resolve_in_order.new.states) c.resolve_as_found.ensures.grows c.resolve_in_order.ensures.grows
