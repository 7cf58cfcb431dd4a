use Rattle.std.proofs.Common.{◌++◌, ◌∙◌, ap}
use Rattle.c_syntax.specs.UnitView.{stmt_of}
use Rattle.c_syntax.specs.WritesUnit.{block_items_of}
use Rattle.c_rules.specs.Functions.{items_of_body}
use Rattle.c_syntax.specs.SeenNames.{seen}
use Rattle.null_calls_expressions.specs.Sited.{sited}
use Rattle.null_calls_expressions.specs.Temporaries.{declared_before}
use Rattle.null_calls_expressions.specs.InstrumentedStatements as parts
use Rattle.null_calls_expressions.specs.Kept.{temporaries_of}
use Rattle.null_calls.proofs.UnitLemmas.{body_made}
use Rattle.null_calls.proofs.units.body_of.Goals as goal

pub returns-clause-tree : goal.returns-clause-tree
returns-clause-tree c =
    let tags = seen c.args.tags.now in
    let made = block_items_of c.in_ok-list.list.items in
    let kept = temporaries_of c.body_items.new.kept.items in
    c.block_node.ensures ∙ body_made (sited c.args.table.now) tags c.args.at c.args.next.now (items_of_body (stmt_of c.args.body.now)) kept made (block_items_of c.in_ok-all.all.items)
    (c.in_ok-list.ensures.keeps ∙ ap (λ ks. temporaries_of ks ++ parts.kept_of_block (sited c.args.table.now) c.args.next.now (items_of_body (stmt_of c.args.body.now))) c.new-kept.ensures.items) c.in_ok-list.ensures.tree (c.in_ok-all.ensures ∙ ap (λ ks. declared_before tags c.args.at (temporaries_of ks) made) c.deref.ensures.value)
