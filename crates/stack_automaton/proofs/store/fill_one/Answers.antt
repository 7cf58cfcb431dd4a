use Rattle.std.proofs.Common.{◌≡◌, Some, sym, subst, get_or, ◌∙◌}
use Rattle.std.proofs.lemmas.Bool.{false≢true}
use Rattle.slab.specs.Slab.{get}
use Rattle.stack_automaton.specs.Storing.{IsPut, AreLinkEdges}
use Rattle.stack_automaton.proofs.GrowingLemmas.{put_there, put_closed, links_there, list_edges}
use Rattle.stack_automaton.proofs.store.fill_one.Goals as goal
use Rattle.stack_automaton.proofs.store.fill_one.Goals.{After-put}

edges_at : (c : After-put) → AreLinkEdges c.args.links.now c.args.keys.now c.in-Some.function c.link_edges.new.edges.items
edges_at c = list_edges c.args.links.now c.args.keys.now c.in-Some.function c.of.result.now c.link_edges.new.edges.items c.of.ensures c.in_ok-link_edges.ensures

puts : (c : After-put) → IsPut (get c.args.states.now) (get c.put.new.states) (get_or c.args.keys.now c.args.place 0) (Some c.link_edges.new.edges.items)
puts c = subst (λ es. IsPut (get c.args.states.now) (get c.put.new.states) (get_or c.args.keys.now c.args.place 0) (Some es)) (c.in_ok-of.ensures ∙ c.deref.ensures.value) c.put.ensures

pub returns-in_ok-of-clause-filled : goal.returns-in_ok-of-clause-filled
returns-in_ok-of-clause-filled c = λ f at.
    let both : Some c.in-Some.function ≡ Some f = c.in-Some.ensures ∙ at in
    let same : c.in-Some.function ≡ f = cc in (
      c.link_edges.new.edges.items,
      (puts c).changed,
      subst (λ h. AreLinkEdges c.args.links.now c.args.keys.now h c.link_edges.new.edges.items) same (edges_at c),
    )

pub returns-in_ok-of-clause-closed : goal.returns-in_ok-of-clause-closed
returns-in_ok-of-clause-closed c =
    put_closed (get c.args.states.now) (get c.put.new.states) (get_or c.args.keys.now c.args.place 0) c.link_edges.new.edges.items
    (puts c)
    (links_there (get c.args.states.now) c.args.keys.now c.args.links.now c.in-Some.function c.link_edges.new.edges.items (edges_at c) (c.requires.targets c.in-Some.function))

pub returns-in_ok-of-clause-others : goal.returns-in_ok-of-clause-others
returns-in_ok-of-clause-others c = λ k unlike.
    c.put.ensures.others k (λ same. unlike (λ has. false≢true (sym c.if-is_among.false ∙ c.is_among.ensures.1 has)) (sym same))

pub returns-in_ok-of-clause-there : goal.returns-in_ok-of-clause-there
returns-in_ok-of-clause-there c =
    put_there (get c.args.states.now) (get c.put.new.states) (get_or c.args.keys.now c.args.place 0) c.link_edges.new.edges.items (puts c)
