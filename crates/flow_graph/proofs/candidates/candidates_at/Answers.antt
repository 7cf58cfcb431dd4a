use Rattle.std.proofs.Common.{◌∙◌, ap, map, sym, length, arith}
use Rattle.c_tree.specs.View.{program_of}
use Rattle.flow_graph.specs.Places.{place_at}
use Rattle.flow_graph.proofs.TakenLemmas.{none_marked, all_placed, few_taken}
use Rattle.flow_graph.proofs.candidates.candidates_at.Goals as goal

pub returns-then-not-marked : goal.returns-then-not-marked
returns-then-not-marked c =
    let p = program_of c.args.program.now in
    c.new.ensures.items ∙ none_marked p c.args.site (sym (c.if-not-marked.ensures p c.requires.calls))

pub places_of-requires-clause-few : goal.places_of-requires-clause-few
places_of-requires-clause-few c = omega (arith, few_taken (program_of c.args.program.now), ap length c.requires.taken)

pub returns : goal.returns
returns c =
    let p = program_of c.args.program.now in
    let at = c.in_ok-places.ensures ∙ ap (λ n. map (place_at n c.args.taken.now) c.candidates.result.now) c.defined.ensures in
    all_placed p c.args.site c.args.taken.now c.candidates.result.now c.in_ok-places.places.items c.order_numbers.new.numbers.items (sym (c.if-not-marked.ensures p c.requires.calls)) c.requires.taken (c.candidates.ensures p c.requires.calls) at c.order_numbers.ensures
