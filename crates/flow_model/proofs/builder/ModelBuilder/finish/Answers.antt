use Rattle.std.proofs.Common.{◌≡◌, ◌∙◌, rules}
use Rattle.flow_model.specs.Built.{graph_of_records}
use Rattle.flow_model.specs.Graph.{Graph}
use Rattle.flow_model.specs.Rules.{IsInOrder}
use Rattle.flow_model.proofs.BuilderLemmas.{patterns_broken, patterns_made, valid_made}
use Rattle.flow_model.proofs.Rebuilt.{made_of_ordered}
use Rattle.flow_model.proofs.builder.ModelBuilder.finish.Goals as goal

pub returns-then-not-sort-clause-invalid : goal.returns-then-not-sort-clause-invalid
returns-then-not-sort-clause-invalid c = λ k e.
    let number : k ≡ 6 = cc in
    search (rules, c.sort.ensures.repeats c.args.nodes c.args.start)

pub returns-then-not-has_right_patterns-clause-invalid : goal.returns-then-not-has_right_patterns-clause-invalid
returns-then-not-has_right_patterns-clause-invalid c = λ k e.
    let number : k ≡ 7 = cc in
    rw number (patterns_broken _ _ (c.sort.ensures.same c.args.nodes c.args.start) c.in_ok-check_first_five.ensures.ok (search (rules, c.sort.ensures.repeats c.args.nodes c.args.start)) (search (rules, c.has_right_patterns.ensures c.args.nodes c.args.start)))

pub into_model-requires : goal.into_model-requires
into_model-requires c =
    valid_made _ _ (c.sort.ensures.same c.args.nodes c.args.start) c.in_ok-check_first_five.ensures.ok (search (rules, c.sort.ensures.order c.args.nodes c.args.start)) (search (rules, c.has_right_patterns.ensures c.args.nodes c.args.start))

pub returns-clause-made : goal.returns-clause-made
returns-clause-made c = search (rules, c.sort.ensures.same c.args.nodes c.args.start)

pub returns-clause-rules : goal.returns-clause-rules
returns-clause-rules c =
    search (rules, c.sort.ensures.repeats c.args.nodes c.args.start, patterns_made _ _ (c.sort.ensures.same c.args.nodes c.args.start), c.has_right_patterns.ensures c.args.nodes c.args.start)

pub returns-clause-kept : goal.returns-clause-kept
returns-clause-kept c = λ given.
    let sorted : Graph = graph_of_records c.sort.new.self c.args.nodes c.args.start in
    let order : IsInOrder sorted = search (rules, c.sort.ensures.order c.args.nodes c.args.start) in
    c.in_ok-model.ensures ∙ made_of_ordered (graph_of_records c.args.self c.args.nodes c.args.start) sorted given order (c.sort.ensures.same c.args.nodes c.args.start)
