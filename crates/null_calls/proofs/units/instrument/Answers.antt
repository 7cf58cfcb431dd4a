use Rattle.std.proofs.Common.{◌∙◌, ap, rules}
use Rattle.c_tree.specs.View.{program_of}
use Rattle.c_syntax.specs.UnitView.{item_at, items_of}
use Rattle.c_syntax.specs.SeenNames.{seen}
use Rattle.null_calls_expressions.specs.Sited.{sited}
use Rattle.null_calls_expressions.specs.Instrumented as marks
use Rattle.null_calls.proofs.UnitLemmas.{two_first, unit_made}
use Rattle.null_calls.proofs.units.instrument.Goals as goal

pub returns : goal.returns
returns c =
    let p = program_of c.args.program.now in
    let u = items_of c.args.items.now in
    let s = sited c.in_ok-table.table in
    let a = c.in_ok-pre.pre in
    let b = c.in_ok-post.post in
    let rest = c.in_ok-rest.rest.items in
    two_first a b rest c.new-made.result.items c.push.new.self.items c.push-2.new.self.items c.append.new.self.items c.new-made.ensures.items c.in_ok-push.ensures.items c.in_ok-push-2.ensures.items (search rules)
    ∙ unit_made p u s (seen c.in_ok-tags.tags.items) (item_at a.at a.kind) (item_at b.at b.kind) (items_of rest) c.in_ok-table.ensures c.in_ok-tags.ensures
    (c.in_ok-pre.ensures ∙ ap marks.null_prototype c.in_ok-before.ensures) (c.in_ok-post.ensures ∙ ap marks.null_prototype c.in_ok-after.ensures)
    (c.in_ok-rest.ensures ∙ ap (λ ts. marks.items s (seen ts) 0 u) c.deref.ensures.value)
