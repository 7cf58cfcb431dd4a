use Rattle.std.proofs.Common.{◌≡◌, true, rules, arith, subst, sym}
use Rattle.std.proofs.lemmas.Option.{slice_get_within}
use Rattle.std.proofs.lemmas.Result.{on_ok_weaker}
use Rattle.slab.specs.Slab.{get}
use Rattle.stack_automaton.specs.declared.place.Link.{Link}
use Rattle.stack_automaton.specs.Links.{HasLink, functions_of}
use Rattle.stack_automaton.specs.Resolving.{IsKnown}
use Rattle.stack_automaton.specs.Storing.{AreLinkEdges, Grows}
use Rattle.stack_automaton.proofs.GrowingLemmas.{list_edges, links_there}
use Rattle.stack_automaton.proofs.ResolvingLemmas.{ends_there, resolved_more}
use Rattle.stack_automaton.proofs.resolve.resolve_one.Goals as goal
use Rattle.stack_automaton.proofs.resolve.resolve_one.Goals.{After-share}

below : (c : After-share) → (l : Link) → HasLink c.args.links.now c.in-Some.function l → IsKnown (functions_of c.args.links.now) c.args.known.now.keys l.place
below c l has = c.are_known.ensures (search rules) l ((c.of.ensures l).1 has)

list : (c : After-share) → AreLinkEdges c.args.links.now c.args.keys.now.items c.in-Some.function c.deref-2.result.now
list c =
    subst (λ es. AreLinkEdges c.args.links.now c.args.keys.now.items c.in-Some.function es) (sym c.deref-2.ensures.value)
    (subst (λ ks. AreLinkEdges c.args.links.now ks c.in-Some.function c.link_edges.new.edges.items) c.deref.ensures.value
    (list_edges c.args.links.now c.deref.result.now c.in-Some.function c.of-2.result.now c.link_edges.new.edges.items c.of-2.ensures c.in_ok-link_edges.ensures))

grows : (c : After-share) → Grows (get c.args.states.now) (get c.share.new.states)
grows c =
    c.share.ensures.grows
    (links_there (get c.args.states.now) c.args.keys.now.items c.args.links.now c.in-Some.function c.deref-2.result.now (list c)
    (ends_there (get c.args.states.now) c.args.keys.now.items c.args.known.now.keys c.args.links.now c.requires.resolved c.requires.held c.in-Some.function (below c)))

pub returns-in_err-key-clause-grows : goal.returns-in_err-key-clause-grows
returns-in_err-key-clause-grows c = grows (goal.at.returns-in_err-key-clause-grows c).After-share

pub note_key-requires : goal.note_key-requires
note_key-requires c =
    let lt = slice_get_within (functions_of c.args.links.now) c.args.place c.in-Some.function (sym c.in-Some.ensures) in
    record { within = omega (arith, lt, c.requires.resolved.long) }

pub returns-clause-grows : goal.returns-clause-grows
returns-clause-grows c = grows (goal.at.returns-clause-grows c).After-share

pub returns-clause-resolved : goal.returns-clause-resolved
returns-clause-resolved c =
    let at = (goal.at.returns-clause-resolved c).After-share in
    on_ok_weaker c.note_key.result
    (resolved_more (get c.args.states.now) (get c.share.new.states) c.args.keys.now.items c.note_key.new.keys.items c.args.known.now.keys c.note_key.new.known.keys c.args.links.now c.args.place c.in-Some.function c.in_ok-key.key c.deref-2.result.now
    c.requires.resolved (grows at) (sym c.in-Some.ensures) (λ has. let holds : true ≡ c.is_among.result = sym (c.is_among.ensures.1 has) in absurd cc) (below at) (list at) c.in_ok-key.ensures.found c.note_key.ensures.long c.note_key.ensures.at c.note_key.ensures.others)
    c.note_key.ensures.known
