use Rattle.std.proofs.Common.{◌∙◌, ap, sym}
use Rattle.c_syntax.specs.View.{expr_of}
use Rattle.c_syntax.specs.UnitView.{init_at, init_of}
use Rattle.c_syntax.specs.WritesUnit.{inits_of}
use Rattle.c_rules.specs.Tags.{tags_of_expr, tags_of_init, tags_of_inits}
use Rattle.c_syntax.specs.SeenNames.{seen}
use Rattle.c_check_counts.proofs.Lists.{more_flat, all_flat, on_same}
use Rattle.c_check_counts.proofs.TagLists.{inits_flat}
use Rattle.c_check_counts.proofs.TagNodes.{of_list}
use Rattle.c_check_counts.proofs.tags.+tags_in_init.Goals as goal

pub add_init-returns-in-List : goal.add_init-returns-in-List
add_init-returns-in-List t c =
    on_same c.add_inits.result (seen c.args.into.now.items) (seen c.add_inits.new.into.items) (tags_of_init (init_of c.args.i.now)) (tags_of_inits (inits_of c.deref.result.now))
    (of_list c.args.i.now c.in-List.inits c.in-List.is ∙ ap (λ xs. tags_of_inits (inits_of xs)) (sym c.deref.ensures.value)) c.add_inits.ensures

pub add_inits-returns : goal.add_inits-returns
add_inits-returns t c =
    all_flat (λ i. tags_of_init (init_of i)) c.args.is.now c.loop-i.i-index (seen c.args.into.now.items) (seen c.loop-i.into.items) (tags_of_inits (inits_of c.args.is.now)) c.loop-i-test.false (inits_flat c.args.is.now) c.loop-i.invariant

pub add_init-returns-in-One : goal.add_init-returns-in-One
add_init-returns-in-One t c =
    on_same c.add_expr.result (seen c.args.into.now.items) (seen c.add_expr.new.into.items) (tags_of_init (init_of c.args.i.now)) (tags_of_expr (expr_of c.in-One.e)) (ap (λ k. tags_of_init (init_at c.args.i.now.at k)) c.in-One.is) c.add_expr.ensures

pub add_inits-loop-i-preserved : goal.add_inits-loop-i-preserved
add_inits-loop-i-preserved t c =
    more_flat (λ i. tags_of_init (init_of i)) c.args.is.now c.loop-i.i-index c.i-item.result (seen c.args.into.now.items) (seen c.loop-i.into.items) (seen c.add_init.new.into.items) c.loop-i-test.true c.i-item.is c.loop-i.invariant c.in_ok-add_init.ensures
