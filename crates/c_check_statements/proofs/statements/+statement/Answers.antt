use Rattle.std.proofs.Common.{rules, ◌≡◌, ◌+◌, [], drop, OnOk, refl, ap, sym, subst, ◌∙◌, append-nil}
use Rattle.std.proofs.lemmas.List.{at_drop_all}
use Rattle.c_check_bodies.specs.Named.{names_of_block_item, names_of_group}
use Rattle.c_check_bodies.proofs.NextLemmas.{later_have}
use Rattle.c_check_bodies.specs.Numbered.{HaveNumbers, next_of}
use Rattle.c_check_declarations.specs.Agreement.{AgreesWith, Names}
use Rattle.c_check_declarations.specs.TypedExpressionView.{typed_expression_of}
use Rattle.c_check_declarations.proofs.Parts.{names_on, raised}
use Rattle.c_check_bodies.specs.AroundView.{around_of}
use Rattle.c_check_bodies.specs.LabelledView.{labelled_before, labelled_of}
use Rattle.c_check_bodies.specs.StatementTreeView.{statement_trees_of, statement_tree_of}
use Rattle.c_rules.specs.Blocks.{after_first, after_stmt, after_stmts, alone, bare, behind_first, held_by_block, held_by_groups, held_by_stmts, joined, with_tree}
use Rattle.c_rules.specs.Checked.{all_three, beside, both, faults, fine, gives, on}
use Rattle.c_rules.specs.Counts.{after, after_maybe, past}
use Rattle.c_rules.specs.Expressions.{value}
use Rattle.c_rules.specs.Scopes.{inside}
use Rattle.c_rules.specs.Statements.{condition_at, first_of, for_of, groups_of_switch, in_loop, in_switch, items_of_block, label_type, labelled, labels_of, no_labelled, step_of, stmt, stmts, switch_of, switched, test_of}
use Rattle.c_rules.specs.Variables.{calls_of_block, calls_of_groups, calls_of_stmts, names_of_block, names_of_decl, names_of_first, names_of_groups, names_of_stmt, names_of_stmts, past_names}
use Rattle.c_check_scopes.specs.View.{before_of, env_of}
use Rattle.c_check_statements.specs.Listed.{after_item, behind_item, item_alone, labels_in, stmts_in}
use Rattle.c_check_statements.specs.Ruled.{after_for, for_inside, group_behind, tested}
use Rattle.c_check_statements.specs.Two.{tested_of}
use Rattle.c_check_expressions.proofs.Exits.{fails_first, fails_first_of, fails_on, fails_second, fails_second_of, fails_third_of, named_first, none_ok, on_ok, two_ended}
use Rattle.c_check_statements.proofs.HavingLemmas.{own_have, rest_have}
use Rattle.c_check_statements.proofs.NodeLemmas.{after_do, after_else, after_parts, after_switch, after_while, block_seen, declared_as, declared_deeper, declared_more, found_as, if_fails, if_seen, numbered_alone, ok_as, switch_seen}
use Rattle.c_check_statements.proofs.PartLemmas.{names_of_two, two_as}
use Rattle.c_check_expressions.proofs.NodeLemmas.{past_none}
use Rattle.c_check_statements.proofs.StatementLemmas.{more_none, item_counted, item_fails, item_more, items_names, laid_start, names_append, numbered_more, onto_laid, stmt_counted, stmt_fails, stmt_more, stmts_at}
use Rattle.c_check_statements.proofs.SwitchLemmas.{none_behind, group_counted, group_fails, group_more, group_names, groups_names, groups_start, names_past, onto_groups}
use Rattle.c_check_statements.proofs.statements.+statement.Goals as goal
use Rattle.c_syntax.specs.declared.tree.BlockItem.TheViews.{the_lemmas}
use Rattle.c_syntax.specs.Tree.{block, do_loop, evaluate, for_loop, if_else, switch_on, while_loop}
use Rattle.c_syntax.specs.UnitView.{decl_of, first_of_head, if_with, labels_of as labels_seen, stmt_at, stmt_of}
use Rattle.c_syntax.specs.View.{expr_behind, expr_of}
use Rattle.c_syntax.specs.WritesUnit.{block_items_of, else_behind, groups_of, stmts_of}
use Rattle.c_tree.specs.Tree as typed
use Rattle.c_tree.specs.View.{expr_of as expr_seen}

pub block_statement-returns-in_err-laid : goal.block_statement-returns-in_err-laid
block_statement-returns-in_err-laid t c = record {
  judged = raised statement_tree_of (stmt (env_of c.args.env.now) (around_of c.args.around.now) (before_of c.args.before.now) (next_of c.args.next.now) (block c.args.at (block_items_of c.args.items.now))) c.from_residual-in_err-laid.result c.in_err-laid.field-0.0 c.from_residual-in_err-laid.ensures
      (names_on c.in_err-laid.field-0.0 (items_of_block (inside (env_of c.args.env.now)) (around_of c.args.around.now) (before_of c.args.before.now) (next_of c.args.next.now) (block_items_of c.args.items.now)) (λ p. fine (with_tree p (typed.block p.tree))) (subst (λ v. Names c.in_err-laid.field-0.0 (faults (items_of_block v (around_of c.args.around.now) (before_of c.args.before.now) (next_of c.args.next.now) (block_items_of c.args.items.now)))) (ap env_of c.in_ok-depth.ensures.entered) c.in_err-laid.ensures.judged));
  counted = none_ok c.from_residual-in_err-laid.result _ c.from_residual-in_err-laid.ensures.0;
  numbered = none_ok c.from_residual-in_err-laid.result _ c.from_residual-in_err-laid.ensures.0;
  kept = none_ok c.from_residual-in_err-laid.result _ c.from_residual-in_err-laid.ensures.0;
}

pub block_statement-returns : goal.block_statement-returns
block_statement-returns t c = record {
  judged = found_as statement_tree_of c.found.result _ _ (ap (λ r. gives r (λ p. with_tree p (typed.block p.tree))) (ap (λ v. items_of_block v (around_of c.args.around.now) (before_of c.args.before.now) (next_of c.args.next.now) (block_items_of c.args.items.now)) (sym (ap env_of c.in_ok-depth.ensures.entered)) ∙ c.in_ok-laid.ensures.judged)) (c.found.ensures _ c.block.ensures);
  counted = on_ok c.found.result _ (c.in_ok-laid.ensures.counted ∙ ap (λ v. past (before_of c.args.before.now) (calls_of_block (block_items_of c.args.items.now)) (held_by_block v (next_of c.args.next.now) (block_items_of c.args.items.now))) (ap env_of c.in_ok-depth.ensures.entered));
  numbered = on_ok c.found.result _ c.in_ok-laid.ensures.numbered;
  kept = on_ok c.found.result _ (c.leave_block.ensures c.args.env.now (declared_deeper c.args.env.now c.items_of_block.new.env c.enter_block.new.env c.in_ok-depth.ensures.entered c.in_ok-laid.ensures.kept) (sym c.len-count.ensures) (sym c.in_ok-depth.ensures.before));
}

pub tested-returns-in_err-condition : goal.tested-returns-in_err-condition
tested-returns-in_err-condition t c = record {
  judged = fails_first tested_of c.from_residual.result c.in_err-condition.field-0.0 (tested (env_of c.args.env.now) (around_of c.args.around.now) (before_of c.args.before.now) (next_of c.args.next.now) c.args.at (expr_of c.args.test.now) (stmt_of c.args.s.now)) (condition_at c.args.at (value (env_of c.args.env.now) (before_of c.args.before.now) (expr_of c.args.test.now))) (stmt (env_of c.args.env.now) (around_of c.args.around.now) (after (before_of c.args.before.now) (expr_of c.args.test.now)) (next_of c.args.next.now) (stmt_of c.args.s.now)) (λ x y. fine (record { first = x; second = y })) c.from_residual.ensures refl c.in_err-condition.ensures.judged;
  counted = none_ok c.from_residual.result _ c.from_residual.ensures.0;
  numbered = none_ok c.from_residual.result _ c.from_residual.ensures.0;
  kept = none_ok c.from_residual.result _ c.from_residual.ensures.0;
}

pub tested-returns-in_err-laid : goal.tested-returns-in_err-laid
tested-returns-in_err-laid t c = record {
  judged = fails_second tested_of c.from_residual-in_err-laid.result c.in_err-laid.field-0.0 (tested (env_of c.args.env.now) (around_of c.args.around.now) (before_of c.args.before.now) (next_of c.args.next.now) c.args.at (expr_of c.args.test.now) (stmt_of c.args.s.now)) (condition_at c.args.at (value (env_of c.args.env.now) (before_of c.args.before.now) (expr_of c.args.test.now))) (stmt (env_of c.args.env.now) (around_of c.args.around.now) (after (before_of c.args.before.now) (expr_of c.args.test.now)) (next_of c.args.next.now) (stmt_of c.args.s.now)) (stmt (env_of c.condition_of.new.env) (around_of c.args.around.now) (before_of c.condition_of.new.before) (next_of c.args.next.now) (stmt_of c.args.s.now)) (λ x y. fine (record { first = x; second = y })) c.from_residual-in_err-laid.ensures refl (λ i. stmt (env_of (c.in_ok-condition.ensures.kept i)) (around_of c.args.around.now) (c.in_ok-condition.ensures.counted i) (next_of c.args.next.now) (stmt_of c.args.s.now)) c.in_err-laid.ensures.judged;
  counted = none_ok c.from_residual-in_err-laid.result _ c.from_residual-in_err-laid.ensures.0;
  numbered = none_ok c.from_residual-in_err-laid.result _ c.from_residual-in_err-laid.ensures.0;
  kept = none_ok c.from_residual-in_err-laid.result _ c.from_residual-in_err-laid.ensures.0;
}

pub tested-returns : goal.tested-returns
tested-returns t c = record {
  judged = λ i. beside (c.in_ok-condition.ensures.judged i) ((sym (λ i. stmt (env_of (c.in_ok-condition.ensures.kept i)) (around_of c.args.around.now) (c.in_ok-condition.ensures.counted i) (next_of c.args.next.now) (stmt_of c.args.s.now)) ∙ c.in_ok-laid.ensures.judged) i);
  counted = c.in_ok-laid.ensures.counted ∙ (λ i. after_stmt (env_of (c.in_ok-condition.ensures.kept i)) (c.in_ok-condition.ensures.counted i) (next_of c.args.next.now) (stmt_of c.args.s.now));
  numbered = c.in_ok-laid.ensures.numbered;
  kept = c.in_ok-laid.ensures.kept ∙ c.in_ok-condition.ensures.kept;
}

pub else_part-returns-in_err-no : goal.else_part-returns-in_err-no
else_part-returns-in_err-no t c = record {
  judged = fails_on statement_tree_of c.from_residual.result c.in_err-no.field-0.0 (on (stmt (env_of c.args.env.now) (around_of c.args.around.now) (before_of c.args.before.now) (next_of c.args.next.now) (stmt_of c.args.s.now)) (λ q. fine (joined (statement_tree_of c.args.yes) q (typed.if_else (expr_seen c.args.test) (statement_tree_of c.args.yes).tree q.tree)))) (stmt (env_of c.args.env.now) (around_of c.args.around.now) (before_of c.args.before.now) (next_of c.args.next.now) (stmt_of c.args.s.now)) (λ q. fine (joined (statement_tree_of c.args.yes) q (typed.if_else (expr_seen c.args.test) (statement_tree_of c.args.yes).tree q.tree))) c.from_residual.ensures refl c.in_err-no.ensures.judged;
  counted = none_ok c.from_residual.result _ c.from_residual.ensures.0;
  numbered = none_ok c.from_residual.result _ c.from_residual.ensures.0;
  kept = none_ok c.from_residual.result _ c.from_residual.ensures.0;
}

pub else_part-returns : goal.else_part-returns
else_part-returns t c = record {
  judged = found_as statement_tree_of c.found.result _ _ (ap (λ r. on r (λ q. fine (joined (statement_tree_of c.args.yes) q (typed.if_else (expr_seen c.args.test) (statement_tree_of c.args.yes).tree q.tree)))) c.in_ok-no.ensures.judged) (c.found.ensures _ c.if_else.ensures);
  counted = on_ok c.found.result _ c.in_ok-no.ensures.counted;
  numbered = on_ok c.found.result _ c.in_ok-no.ensures.numbered;
  kept = on_ok c.found.result _ c.in_ok-no.ensures.kept;
}

pub while_statement-returns-in_err-parts : goal.while_statement-returns-in_err-parts
while_statement-returns-in_err-parts t c = record {
  judged = raised statement_tree_of (stmt (env_of c.args.env.now) (around_of c.args.around.now) (before_of c.args.before.now) (next_of c.args.next.now) (while_loop c.args.at (expr_of c.args.test.now) (stmt_of c.args.body.now))) c.from_residual.result c.in_err-parts.field-0.0 c.from_residual.ensures (names_of_two c.in_err-parts.field-0.0 (condition_at c.args.at (value (env_of c.args.env.now) (before_of c.args.before.now) (expr_of c.args.test.now))) (stmt (env_of c.args.env.now) (in_loop (around_of c.args.around.now)) (after (before_of c.args.before.now) (expr_of c.args.test.now)) (next_of c.args.next.now) (stmt_of c.args.body.now)) (λ d p. record { first = d; second = p }) (λ d p. with_tree p (typed.while_loop d p.tree)) (subst (λ a. Names c.in_err-parts.field-0.0 (faults (tested (env_of c.args.env.now) a (before_of c.args.before.now) (next_of c.args.next.now) c.args.at (expr_of c.args.test.now) (stmt_of c.args.body.now)))) c.in_loop-inner.ensures c.in_err-parts.ensures.judged));
  counted = none_ok c.from_residual.result _ c.from_residual.ensures.0;
  numbered = none_ok c.from_residual.result _ c.from_residual.ensures.0;
  kept = none_ok c.from_residual.result _ c.from_residual.ensures.0;
}

pub while_statement-returns : goal.while_statement-returns
while_statement-returns t c = record {
  judged = found_as statement_tree_of c.found.result _ _ (two_as (condition_at c.args.at (value (env_of c.args.env.now) (before_of c.args.before.now) (expr_of c.args.test.now))) (stmt (env_of c.args.env.now) (in_loop (around_of c.args.around.now)) (after (before_of c.args.before.now) (expr_of c.args.test.now)) (next_of c.args.next.now) (stmt_of c.args.body.now)) (λ d p. fine (with_tree p (typed.while_loop d p.tree))) (tested_of c.in_ok-parts.parts) (ap (λ a. tested (env_of c.args.env.now) a (before_of c.args.before.now) (next_of c.args.next.now) c.args.at (expr_of c.args.test.now) (stmt_of c.args.body.now)) (sym c.in_loop-inner.ensures) ∙ c.in_ok-parts.ensures.judged)) (c.found.ensures _ c.while_loop.ensures);
  counted = on_ok c.found.result _ (c.in_ok-parts.ensures.counted ∙ after_while (env_of c.args.env.now) (before_of c.args.before.now) (next_of c.args.next.now) c.args.at (expr_of c.args.test.now) (stmt_of c.args.body.now));
  numbered = on_ok c.found.result _ c.in_ok-parts.ensures.numbered;
  kept = on_ok c.found.result _ c.in_ok-parts.ensures.kept;
}

pub do_statement-returns-in_err-laid : goal.do_statement-returns-in_err-laid
do_statement-returns-in_err-laid t c = record {
  judged = raised statement_tree_of (stmt (env_of c.args.env.now) (around_of c.args.around.now) (before_of c.args.before.now) (next_of c.args.next.now) (do_loop c.args.at (stmt_of c.args.body.now) (expr_of c.args.test.now))) c.from_residual.result c.in_err-laid.field-0.0 c.from_residual.ensures (named_first c.in_err-laid.field-0.0 (stmt (env_of c.args.env.now) (around_of c.args.around.now) (before_of c.args.before.now) (next_of c.args.next.now) (do_loop c.args.at (stmt_of c.args.body.now) (expr_of c.args.test.now))) (stmt (env_of c.args.env.now) (in_loop (around_of c.args.around.now)) (before_of c.args.before.now) (next_of c.args.next.now) (stmt_of c.args.body.now)) (stmt (env_of c.args.env.now) (around_of c.in_loop-inner.result) (before_of c.args.before.now) (next_of c.args.next.now) (stmt_of c.args.body.now)) (condition_at c.args.at (value (env_of c.args.env.now) (after_stmt (env_of c.args.env.now) (before_of c.args.before.now) (next_of c.args.next.now) (stmt_of c.args.body.now)) (expr_of c.args.test.now))) (λ p d. fine (with_tree p (typed.do_loop p.tree d))) refl (λ i. stmt (env_of c.args.env.now) (c.in_loop-inner.ensures i) (before_of c.args.before.now) (next_of c.args.next.now) (stmt_of c.args.body.now)) c.in_err-laid.ensures.judged);
  counted = none_ok c.from_residual.result _ c.from_residual.ensures.0;
  numbered = none_ok c.from_residual.result _ c.from_residual.ensures.0;
  kept = none_ok c.from_residual.result _ c.from_residual.ensures.0;
}

pub do_statement-returns-in_err-condition : goal.do_statement-returns-in_err-condition
do_statement-returns-in_err-condition t c = record {
  judged = fails_second statement_tree_of c.from_residual-in_err-condition.result c.in_err-condition.field-0.0 (stmt (env_of c.args.env.now) (around_of c.args.around.now) (before_of c.args.before.now) (next_of c.args.next.now) (do_loop c.args.at (stmt_of c.args.body.now) (expr_of c.args.test.now))) (stmt (env_of c.args.env.now) (in_loop (around_of c.args.around.now)) (before_of c.args.before.now) (next_of c.args.next.now) (stmt_of c.args.body.now)) (condition_at c.args.at (value (env_of c.args.env.now) (after_stmt (env_of c.args.env.now) (before_of c.args.before.now) (next_of c.args.next.now) (stmt_of c.args.body.now)) (expr_of c.args.test.now))) (condition_at c.args.at (value (env_of c.statement.new.env) (before_of c.statement.new.before) (expr_of c.args.test.now))) (λ p d. fine (with_tree p (typed.do_loop p.tree d))) c.from_residual-in_err-condition.ensures refl (λ i. condition_at c.args.at (value (env_of (c.in_ok-laid.ensures.kept i)) (c.in_ok-laid.ensures.counted i) (expr_of c.args.test.now))) c.in_err-condition.ensures.judged;
  counted = none_ok c.from_residual-in_err-condition.result _ c.from_residual-in_err-condition.ensures.0;
  numbered = none_ok c.from_residual-in_err-condition.result _ c.from_residual-in_err-condition.ensures.0;
  kept = none_ok c.from_residual-in_err-condition.result _ c.from_residual-in_err-condition.ensures.0;
}

pub do_statement-returns : goal.do_statement-returns
do_statement-returns t c = record {
  judged = found_as statement_tree_of c.found.result _ _ ((λ i. both ((sym (λ i. stmt (env_of c.args.env.now) (c.in_loop-inner.ensures i) (before_of c.args.before.now) (next_of c.args.next.now) (stmt_of c.args.body.now)) ∙ c.in_ok-laid.ensures.judged) i) ((sym (λ i. condition_at c.args.at (value (env_of (c.in_ok-laid.ensures.kept i)) (c.in_ok-laid.ensures.counted i) (expr_of c.args.test.now))) ∙ c.in_ok-condition.ensures.judged) i) (λ p d. fine (with_tree p (typed.do_loop p.tree d))))) (c.found.ensures _ c.do_loop.ensures);
  counted = on_ok c.found.result _ (c.in_ok-condition.ensures.counted ∙ (ap (λ b. after b (expr_of c.args.test.now)) c.in_ok-laid.ensures.counted ∙ after_do (env_of c.args.env.now) (before_of c.args.before.now) (next_of c.args.next.now) c.args.at (stmt_of c.args.body.now) (expr_of c.args.test.now)));
  numbered = on_ok c.found.result _ c.in_ok-laid.ensures.numbered;
  kept = on_ok c.found.result _ (c.in_ok-condition.ensures.kept ∙ c.in_ok-laid.ensures.kept);
}

pub for_statement-returns-in_err-laid : goal.for_statement-returns-in_err-laid
for_statement-returns-in_err-laid t c = record {
  judged = raised statement_tree_of (stmt (env_of c.args.env.now) (around_of c.args.around.now) (before_of c.args.before.now) (next_of c.args.next.now) (for_loop c.args.at (first_of_head c.args.first.now) (expr_behind c.args.test.now) (expr_behind c.args.step.now) (stmt_of c.args.body.now))) c.from_residual-in_err-laid.result c.in_err-laid.field-0.0 c.from_residual-in_err-laid.ensures (subst (λ v. Names c.in_err-laid.field-0.0 (faults (for_inside v (around_of c.args.around.now) (before_of c.args.before.now) (next_of c.args.next.now) c.args.at (first_of_head c.args.first.now) (expr_behind c.args.test.now) (expr_behind c.args.step.now) (stmt_of c.args.body.now)))) (ap env_of c.in_ok-depth.ensures.entered) c.in_err-laid.ensures.judged);
  counted = none_ok c.from_residual-in_err-laid.result _ c.from_residual-in_err-laid.ensures.0;
  numbered = none_ok c.from_residual-in_err-laid.result _ c.from_residual-in_err-laid.ensures.0;
  kept = none_ok c.from_residual-in_err-laid.result _ c.from_residual-in_err-laid.ensures.0;
}

pub for_statement-returns : goal.for_statement-returns
for_statement-returns t c = record {
  judged = ap (λ v. for_inside v (around_of c.args.around.now) (before_of c.args.before.now) (next_of c.args.next.now) c.args.at (first_of_head c.args.first.now) (expr_behind c.args.test.now) (expr_behind c.args.step.now) (stmt_of c.args.body.now)) (sym (ap env_of c.in_ok-depth.ensures.entered)) ∙ c.in_ok-laid.ensures.judged;
  counted = c.in_ok-laid.ensures.counted ∙ (ap (λ v. after_for v (before_of c.args.before.now) (next_of c.args.next.now) (first_of_head c.args.first.now) (expr_behind c.args.test.now) (expr_behind c.args.step.now) (stmt_of c.args.body.now)) (ap env_of c.in_ok-depth.ensures.entered) ∙ after_parts (inside (env_of c.args.env.now)) (before_of c.args.before.now) (next_of c.args.next.now) (first_of_head c.args.first.now) (expr_behind c.args.test.now) (expr_behind c.args.step.now) (stmt_of c.args.body.now));
  numbered = c.in_ok-laid.ensures.numbered;
  kept = c.leave_block.ensures c.args.env.now (declared_deeper c.args.env.now c.for_parts.new.env c.enter_block.new.env c.in_ok-depth.ensures.entered c.in_ok-laid.ensures.kept) (sym c.len-count.ensures) (sym c.in_ok-depth.ensures.before);
}

pub for_parts-returns-in_err-head : goal.for_parts-returns-in_err-head
for_parts-returns-in_err-head t c = record {
  judged = fails_first_of statement_tree_of c.from_residual.result c.in_err-head.field-0.0 (for_inside (env_of c.args.env.now) (around_of c.args.around.now) (before_of c.args.before.now) (next_of c.args.next.now) c.args.at (first_of_head c.args.first.now) (expr_behind c.args.test.now) (expr_behind c.args.step.now) (stmt_of c.args.body.now)) (first_of (env_of c.args.env.now) (before_of c.args.before.now) (next_of c.args.next.now) (first_of_head c.args.first.now)) (beside (test_of (behind_first (env_of c.args.env.now) (next_of c.args.next.now) (first_of_head c.args.first.now)) (after_first (env_of c.args.env.now) (before_of c.args.before.now) (next_of c.args.next.now) (first_of_head c.args.first.now)) c.args.at (expr_behind c.args.test.now)) (step_of (behind_first (env_of c.args.env.now) (next_of c.args.next.now) (first_of_head c.args.first.now)) (after_maybe (after_first (env_of c.args.env.now) (before_of c.args.before.now) (next_of c.args.next.now) (first_of_head c.args.first.now)) (expr_behind c.args.test.now)) (expr_behind c.args.step.now))) (stmt (behind_first (env_of c.args.env.now) (next_of c.args.next.now) (first_of_head c.args.first.now)) (in_loop (around_of c.args.around.now)) (after_maybe (after_maybe (after_first (env_of c.args.env.now) (before_of c.args.before.now) (next_of c.args.next.now) (first_of_head c.args.first.now)) (expr_behind c.args.test.now)) (expr_behind c.args.step.now)) (past_names (next_of c.args.next.now) (names_of_first (first_of_head c.args.first.now))) (stmt_of c.args.body.now)) (λ p tests q. fine (for_of p tests q)) c.from_residual.ensures refl c.in_err-head.ensures.judged;
  counted = none_ok c.from_residual.result _ c.from_residual.ensures.0;
  numbered = none_ok c.from_residual.result _ c.from_residual.ensures.0;
  kept = none_ok c.from_residual.result _ c.from_residual.ensures.0;
}

pub for_parts-returns-in_err-tests : goal.for_parts-returns-in_err-tests
for_parts-returns-in_err-tests t c = record {
  judged = fails_second_of statement_tree_of c.from_residual-in_err-tests.result c.in_err-tests.field-0.0 (for_inside (env_of c.args.env.now) (around_of c.args.around.now) (before_of c.args.before.now) (next_of c.args.next.now) c.args.at (first_of_head c.args.first.now) (expr_behind c.args.test.now) (expr_behind c.args.step.now) (stmt_of c.args.body.now)) (first_of (env_of c.args.env.now) (before_of c.args.before.now) (next_of c.args.next.now) (first_of_head c.args.first.now)) (beside (test_of (behind_first (env_of c.args.env.now) (next_of c.args.next.now) (first_of_head c.args.first.now)) (after_first (env_of c.args.env.now) (before_of c.args.before.now) (next_of c.args.next.now) (first_of_head c.args.first.now)) c.args.at (expr_behind c.args.test.now)) (step_of (behind_first (env_of c.args.env.now) (next_of c.args.next.now) (first_of_head c.args.first.now)) (after_maybe (after_first (env_of c.args.env.now) (before_of c.args.before.now) (next_of c.args.next.now) (first_of_head c.args.first.now)) (expr_behind c.args.test.now)) (expr_behind c.args.step.now))) (beside (test_of (env_of c.first_of.new.env) (before_of c.first_of.new.before) c.args.at (expr_behind c.args.test.now)) (step_of (env_of c.first_of.new.env) (after_maybe (before_of c.first_of.new.before) (expr_behind c.args.test.now)) (expr_behind c.args.step.now))) (stmt (behind_first (env_of c.args.env.now) (next_of c.args.next.now) (first_of_head c.args.first.now)) (in_loop (around_of c.args.around.now)) (after_maybe (after_maybe (after_first (env_of c.args.env.now) (before_of c.args.before.now) (next_of c.args.next.now) (first_of_head c.args.first.now)) (expr_behind c.args.test.now)) (expr_behind c.args.step.now)) (past_names (next_of c.args.next.now) (names_of_first (first_of_head c.args.first.now))) (stmt_of c.args.body.now)) (λ p tests q. fine (for_of p tests q)) c.from_residual-in_err-tests.ensures refl (λ i. beside (test_of (c.in_ok-head.ensures.meant i) (c.in_ok-head.ensures.counted i) c.args.at (expr_behind c.args.test.now)) (step_of (c.in_ok-head.ensures.meant i) (after_maybe (c.in_ok-head.ensures.counted i) (expr_behind c.args.test.now)) (expr_behind c.args.step.now))) c.in_err-tests.ensures.judged;
  counted = none_ok c.from_residual-in_err-tests.result _ c.from_residual-in_err-tests.ensures.0;
  numbered = none_ok c.from_residual-in_err-tests.result _ c.from_residual-in_err-tests.ensures.0;
  kept = none_ok c.from_residual-in_err-tests.result _ c.from_residual-in_err-tests.ensures.0;
}

pub for_parts-returns-in_err-laid : goal.for_parts-returns-in_err-laid
for_parts-returns-in_err-laid t c = record {
  judged = fails_third_of statement_tree_of c.from_residual-in_err-laid.result c.in_err-laid.field-0.0 (for_inside (env_of c.args.env.now) (around_of c.args.around.now) (before_of c.args.before.now) (next_of c.args.next.now) c.args.at (first_of_head c.args.first.now) (expr_behind c.args.test.now) (expr_behind c.args.step.now) (stmt_of c.args.body.now)) (first_of (env_of c.args.env.now) (before_of c.args.before.now) (next_of c.args.next.now) (first_of_head c.args.first.now)) (beside (test_of (behind_first (env_of c.args.env.now) (next_of c.args.next.now) (first_of_head c.args.first.now)) (after_first (env_of c.args.env.now) (before_of c.args.before.now) (next_of c.args.next.now) (first_of_head c.args.first.now)) c.args.at (expr_behind c.args.test.now)) (step_of (behind_first (env_of c.args.env.now) (next_of c.args.next.now) (first_of_head c.args.first.now)) (after_maybe (after_first (env_of c.args.env.now) (before_of c.args.before.now) (next_of c.args.next.now) (first_of_head c.args.first.now)) (expr_behind c.args.test.now)) (expr_behind c.args.step.now))) (stmt (behind_first (env_of c.args.env.now) (next_of c.args.next.now) (first_of_head c.args.first.now)) (in_loop (around_of c.args.around.now)) (after_maybe (after_maybe (after_first (env_of c.args.env.now) (before_of c.args.before.now) (next_of c.args.next.now) (first_of_head c.args.first.now)) (expr_behind c.args.test.now)) (expr_behind c.args.step.now)) (past_names (next_of c.args.next.now) (names_of_first (first_of_head c.args.first.now))) (stmt_of c.args.body.now)) (stmt (env_of c.tests_of.new.env) (around_of c.in_loop-inner.result) (before_of c.tests_of.new.before) (next_of c.first_of.new.next) (stmt_of c.args.body.now)) (λ p tests q. fine (for_of p tests q)) c.from_residual-in_err-laid.ensures refl (λ i. stmt ((ap env_of c.in_ok-tests.ensures.kept ∙ c.in_ok-head.ensures.meant) i) (c.in_loop-inner.ensures i) ((c.in_ok-tests.ensures.counted ∙ ap (λ b. after_maybe (after_maybe b (expr_behind c.args.test.now)) (expr_behind c.args.step.now)) c.in_ok-head.ensures.counted) i) (c.in_ok-head.ensures.numbered i) (stmt_of c.args.body.now)) c.in_err-laid.ensures.judged;
  counted = none_ok c.from_residual-in_err-laid.result _ c.from_residual-in_err-laid.ensures.0;
  numbered = none_ok c.from_residual-in_err-laid.result _ c.from_residual-in_err-laid.ensures.0;
  kept = none_ok c.from_residual-in_err-laid.result _ c.from_residual-in_err-laid.ensures.0;
}

pub for_parts-returns : goal.for_parts-returns
for_parts-returns t c = record {
  judged = found_as statement_tree_of c.found.result _ _ ((λ i. all_three (c.in_ok-head.ensures.judged i) ((sym (λ i. beside (test_of (c.in_ok-head.ensures.meant i) (c.in_ok-head.ensures.counted i) c.args.at (expr_behind c.args.test.now)) (step_of (c.in_ok-head.ensures.meant i) (after_maybe (c.in_ok-head.ensures.counted i) (expr_behind c.args.test.now)) (expr_behind c.args.step.now))) ∙ c.in_ok-tests.ensures.judged) i) ((sym (λ i. stmt ((ap env_of c.in_ok-tests.ensures.kept ∙ c.in_ok-head.ensures.meant) i) (c.in_loop-inner.ensures i) ((c.in_ok-tests.ensures.counted ∙ ap (λ b. after_maybe (after_maybe b (expr_behind c.args.test.now)) (expr_behind c.args.step.now)) c.in_ok-head.ensures.counted) i) (c.in_ok-head.ensures.numbered i) (stmt_of c.args.body.now)) ∙ c.in_ok-laid.ensures.judged) i) (λ p tests q. fine (for_of p tests q)))) (c.found.ensures _ c.for_loop.ensures);
  counted = on_ok c.found.result _ (c.in_ok-laid.ensures.counted ∙ (λ i. after_stmt ((ap env_of c.in_ok-tests.ensures.kept ∙ c.in_ok-head.ensures.meant) i) ((c.in_ok-tests.ensures.counted ∙ ap (λ b. after_maybe (after_maybe b (expr_behind c.args.test.now)) (expr_behind c.args.step.now)) c.in_ok-head.ensures.counted) i) (c.in_ok-head.ensures.numbered i) (stmt_of c.args.body.now)));
  numbered = on_ok c.found.result _ (c.in_ok-laid.ensures.numbered ∙ (ap (λ n. past_names n (names_of_stmt (stmt_of c.args.body.now))) c.in_ok-head.ensures.numbered ∙ sym (names_append (next_of c.args.next.now) (names_of_first (first_of_head c.args.first.now)) (names_of_stmt (stmt_of c.args.body.now)))));
  kept = on_ok c.found.result _ (declared_as c.args.env.now c.first_of.new.env c.statement.new.env c.in_ok-head.ensures.kept (c.in_ok-laid.ensures.kept ∙ c.in_ok-tests.ensures.kept));
}

pub switch_statement-returns-in_err-on : goal.switch_statement-returns-in_err-on
switch_statement-returns-in_err-on t c = record {
  judged = fails_first statement_tree_of c.from_residual.result c.in_err-on.field-0.0 (stmt (env_of c.args.env.now) (around_of c.args.around.now) (before_of c.args.before.now) (next_of c.args.next.now) (switch_on c.args.at (expr_of c.args.e.now) (groups_of c.args.groups.now))) (switched c.args.at (value (env_of c.args.env.now) (before_of c.args.before.now) (expr_of c.args.e.now))) (groups_of_switch (env_of c.args.env.now) (in_switch (around_of c.args.around.now)) (after (before_of c.args.before.now) (expr_of c.args.e.now)) (next_of c.args.next.now) (label_type (switched c.args.at (value (env_of c.args.env.now) (before_of c.args.before.now) (expr_of c.args.e.now)))) (groups_of c.args.groups.now)) (switch_of c.args.at) c.from_residual.ensures refl c.in_err-on.ensures.judged;
  counted = none_ok c.from_residual.result _ c.from_residual.ensures.0;
  numbered = none_ok c.from_residual.result _ c.from_residual.ensures.0;
  kept = none_ok c.from_residual.result _ c.from_residual.ensures.0;
}

pub switch_statement-returns-in_err-laid : goal.switch_statement-returns-in_err-laid
switch_statement-returns-in_err-laid t c = record {
  judged = fails_second statement_tree_of c.from_residual-in_err-laid.result c.in_err-laid.field-0.0 (stmt (env_of c.args.env.now) (around_of c.args.around.now) (before_of c.args.before.now) (next_of c.args.next.now) (switch_on c.args.at (expr_of c.args.e.now) (groups_of c.args.groups.now))) (switched c.args.at (value (env_of c.args.env.now) (before_of c.args.before.now) (expr_of c.args.e.now))) (groups_of_switch (env_of c.args.env.now) (in_switch (around_of c.args.around.now)) (after (before_of c.args.before.now) (expr_of c.args.e.now)) (next_of c.args.next.now) (label_type (switched c.args.at (value (env_of c.args.env.now) (before_of c.args.before.now) (expr_of c.args.e.now)))) (groups_of c.args.groups.now)) (groups_of_switch (env_of c.switched_value.new.env) (around_of c.in_switch-inner.result) (before_of c.switched_value.new.before) (next_of c.args.next.now) c.label_type-i.result (groups_of c.args.groups.now)) (switch_of c.args.at) c.from_residual-in_err-laid.ensures refl (λ j. groups_of_switch (env_of (c.in_ok-on.ensures.kept j)) (c.in_switch-inner.ensures j) (c.in_ok-on.ensures.counted j) (next_of c.args.next.now) ((c.label_type-i.ensures ∙ ap label_type (sym c.in_ok-on.ensures.judged)) j) (groups_of c.args.groups.now)) c.in_err-laid.ensures.judged;
  counted = none_ok c.from_residual-in_err-laid.result _ c.from_residual-in_err-laid.ensures.0;
  numbered = none_ok c.from_residual-in_err-laid.result _ c.from_residual-in_err-laid.ensures.0;
  kept = none_ok c.from_residual-in_err-laid.result _ c.from_residual-in_err-laid.ensures.0;
}

pub switch_statement-returns : goal.switch_statement-returns
switch_statement-returns t c = record {
  judged = two_ended statement_tree_of c.switch_laid.result (stmt (env_of c.args.env.now) (around_of c.args.around.now) (before_of c.args.before.now) (next_of c.args.next.now) (switch_on c.args.at (expr_of c.args.e.now) (groups_of c.args.groups.now))) (switched c.args.at (value (env_of c.args.env.now) (before_of c.args.before.now) (expr_of c.args.e.now))) (switched c.args.at (value (env_of c.args.env.now) (before_of c.args.before.now) (expr_of c.args.e.now))) (groups_of_switch (env_of c.args.env.now) (in_switch (around_of c.args.around.now)) (after (before_of c.args.before.now) (expr_of c.args.e.now)) (next_of c.args.next.now) (label_type (switched c.args.at (value (env_of c.args.env.now) (before_of c.args.before.now) (expr_of c.args.e.now)))) (groups_of c.args.groups.now)) (groups_of_switch (env_of c.switched_value.new.env) (around_of c.in_switch-inner.result) (before_of c.switched_value.new.before) (next_of c.args.next.now) c.label_type-i.result (groups_of c.args.groups.now)) (switch_of c.args.at) (typed_expression_of c.in_ok-on.on) (labelled_of c.in_ok-laid.laid) (switch_of c.args.at (typed_expression_of c.in_ok-on.on) (labelled_of c.in_ok-laid.laid)) refl refl c.in_ok-on.ensures.judged (λ j. groups_of_switch (env_of (c.in_ok-on.ensures.kept j)) (c.in_switch-inner.ensures j) (c.in_ok-on.ensures.counted j) (next_of c.args.next.now) ((c.label_type-i.ensures ∙ ap label_type (sym c.in_ok-on.ensures.judged)) j) (groups_of c.args.groups.now)) c.in_ok-laid.ensures.judged refl c.switch_laid.ensures;
  counted = on_ok c.switch_laid.result _ (c.in_ok-laid.ensures.counted ∙ ((λ j. past (c.in_ok-on.ensures.counted j) (calls_of_groups (groups_of c.args.groups.now)) (held_by_groups (env_of (c.in_ok-on.ensures.kept j)) (next_of c.args.next.now) (groups_of c.args.groups.now))) ∙ after_switch (env_of c.args.env.now) (before_of c.args.before.now) (next_of c.args.next.now) c.args.at (expr_of c.args.e.now) (groups_of c.args.groups.now)));
  numbered = on_ok c.switch_laid.result _ (c.in_ok-laid.ensures.numbered);
  kept = on_ok c.switch_laid.result _ (c.in_ok-laid.ensures.kept ∙ c.in_ok-on.ensures.kept);
}

pub items_of_block-loop-item-init : goal.items_of_block-loop-item-init
items_of_block-loop-item-init t c =
    record {
      judged = laid_start (items_of_block (env_of c.args.env.now) (around_of c.args.around.now) (before_of c.args.before.now) (next_of c.args.next.now) (block_items_of c.args.items.now)) ∙ ap (λ d. onto_laid d (items_of_block (env_of c.args.env.now) (around_of c.args.around.now) (before_of c.args.before.now) (next_of c.args.next.now) (block_items_of c.args.items.now))) (sym c.no_statements-laid.ensures);
      counted = refl;
      numbered = refl;
      left = c.requires;
      kept = ([], refl);
    }

pub items_of_block-loop-item-preserved : goal.items_of_block-loop-item-preserved
items_of_block-loop-item-preserved t c =
    record {
      judged = item_more (env_of c.loop-item.env) (env_of c.block_item.new.env) (around_of c.args.around.now) (before_of c.loop-item.before) (before_of c.block_item.new.before) (next_of c.loop-item.next) (next_of c.block_item.new.next) c.args.items.now c.loop-item.item-index c.item-item.result (statement_trees_of c.loop-item.laid) (statement_trees_of c.in_ok-one.one) (statement_trees_of c.in_ok-laid.laid) (items_of_block (env_of c.args.env.now) (around_of c.args.around.now) (before_of c.args.before.now) (next_of c.args.next.now) (block_items_of c.args.items.now)) c.loop-item-test.true c.item-item.is c.loop-item.invariant.judged c.in_ok-one.ensures.judged c.in_ok-one.ensures.meant c.in_ok-one.ensures.counted c.in_ok-one.ensures.numbered c.in_ok-laid.ensures;
      counted = item_counted (env_of c.loop-item.env) (env_of c.block_item.new.env) (before_of c.loop-item.before) (before_of c.block_item.new.before) (past (before_of c.args.before.now) (calls_of_block (block_items_of c.args.items.now)) (held_by_block (env_of c.args.env.now) (next_of c.args.next.now) (block_items_of c.args.items.now))) (next_of c.loop-item.next) (next_of c.block_item.new.next) c.args.items.now c.loop-item.item-index c.item-item.result c.loop-item-test.true c.item-item.is c.loop-item.invariant.counted c.in_ok-one.ensures.meant c.in_ok-one.ensures.counted c.in_ok-one.ensures.numbered;
      numbered = numbered_more (next_of c.loop-item.next) (next_of c.block_item.new.next) (past_names (next_of c.args.next.now) (names_of_block (block_items_of c.args.items.now))) (names_of_block (block_items_of (drop c.loop-item.item-index c.args.items.now))) (names_of_block_item c.item-item.result) (names_of_block (block_items_of (drop (c.loop-item.item-index + 1) c.args.items.now))) c.loop-item.invariant.numbered (items_names c.args.items.now c.loop-item.item-index c.item-item.result c.loop-item-test.true c.item-item.is) c.in_ok-one.ensures.numbered;
      left = rest_have (next_of c.loop-item.next) (names_of_block (block_items_of (drop c.loop-item.item-index c.args.items.now))) (names_of_block_item c.item-item.result) (names_of_block (block_items_of (drop (c.loop-item.item-index + 1) c.args.items.now))) (items_names c.args.items.now c.loop-item.item-index c.item-item.result c.loop-item-test.true c.item-item.is) c.loop-item.invariant.left (next_of c.block_item.new.next) c.in_ok-one.ensures.numbered;
      kept = declared_more c.args.env.now c.loop-item.env c.block_item.new.env c.loop-item.invariant.kept c.in_ok-one.ensures.kept;
    }

pub items_of_block-returns-in_err-one : goal.items_of_block-returns-in_err-one
items_of_block-returns-in_err-one t c = record {
  judged = raised statement_trees_of (items_of_block (env_of c.args.env.now) (around_of c.args.around.now) (before_of c.args.before.now) (next_of c.args.next.now) (block_items_of c.args.items.now)) c.from_residual.result c.in_err-one.field-0.0 c.from_residual.ensures (item_fails c.in_err-one.field-0.0 (env_of c.loop-item.env) (around_of c.args.around.now) (before_of c.loop-item.before) (next_of c.loop-item.next) c.args.items.now c.loop-item.item-index c.item-item.result (statement_trees_of c.loop-item.laid) (items_of_block (env_of c.args.env.now) (around_of c.args.around.now) (before_of c.args.before.now) (next_of c.args.next.now) (block_items_of c.args.items.now)) c.loop-item-test.true c.item-item.is c.loop-item.invariant.judged c.in_err-one.ensures.judged);
  counted = none_ok c.from_residual.result _ c.from_residual.ensures.0;
  numbered = none_ok c.from_residual.result _ c.from_residual.ensures.0;
  kept = none_ok c.from_residual.result _ c.from_residual.ensures.0;
}

pub items_of_block-returns : goal.items_of_block-returns
items_of_block-returns t c = record {
  judged = c.loop-item.invariant.judged ∙ at_drop_all (λ l. onto_laid (statement_trees_of c.loop-item.laid) (items_of_block (env_of c.loop-item.env) (around_of c.args.around.now) (before_of c.loop-item.before) (next_of c.loop-item.next) (block_items_of l))) c.args.items.now c.loop-item.item-index c.loop-item-test.false ∙ ap fine (more_none (statement_trees_of c.loop-item.laid));
  counted = sym (c.loop-item.invariant.counted ∙ at_drop_all (λ l. past (before_of c.loop-item.before) (calls_of_block (block_items_of l)) (held_by_block (env_of c.loop-item.env) (next_of c.loop-item.next) (block_items_of l))) c.args.items.now c.loop-item.item-index c.loop-item-test.false ∙ past_none (before_of c.loop-item.before));
  numbered = sym (c.loop-item.invariant.numbered ∙ at_drop_all (λ l. past_names (next_of c.loop-item.next) (names_of_block (block_items_of l))) c.args.items.now c.loop-item.item-index c.loop-item-test.false);
  kept = c.loop-item.invariant.kept;
}

pub block_item-returns-in-Declaration : goal.block_item-returns-in-Declaration
block_item-returns-in-Declaration t c = record {
  judged = subst (λ x. AgreesWith statement_trees_of c.local_decl.result (item_alone (env_of c.args.env.now) (around_of c.args.around.now) (before_of c.args.before.now) (next_of c.args.next.now) x)) (sym c.in-Declaration.is) c.local_decl.ensures.judged;
  counted = subst (λ x. OnOk c.local_decl.result (before_of c.local_decl.new.before ≡ after_item (env_of c.args.env.now) (before_of c.args.before.now) (next_of c.args.next.now) x)) (sym c.in-Declaration.is) c.local_decl.ensures.counted;
  meant = subst (λ x. OnOk c.local_decl.result (env_of c.local_decl.new.env ≡ behind_item (env_of c.args.env.now) (next_of c.args.next.now) x)) (sym c.in-Declaration.is) c.local_decl.ensures.meant;
  numbered = subst (λ x. OnOk c.local_decl.result (next_of c.local_decl.new.next ≡ past_names (next_of c.args.next.now) (names_of_block_item x))) (sym c.in-Declaration.is) (numbered_alone c.local_decl.result (next_of c.local_decl.new.next) (next_of c.args.next.now) (names_of_decl (decl_of c.in-Declaration.decl)) c.local_decl.ensures.numbered);
  kept = c.local_decl.ensures.kept;
}

pub block_item-returns-in_err-one-in-Statement : goal.block_item-returns-in_err-one-in-Statement
block_item-returns-in_err-one-in-Statement t c = record {
  judged = raised statement_trees_of (item_alone (env_of c.args.env.now) (around_of c.args.around.now) (before_of c.args.before.now) (next_of c.args.next.now) c.args.item.now) c.from_residual.result c.in_err-one-in-Statement.field-0.0 c.from_residual.ensures (subst (λ x. Names c.in_err-one-in-Statement.field-0.0 (faults (item_alone (env_of c.args.env.now) (around_of c.args.around.now) (before_of c.args.before.now) (next_of c.args.next.now) x))) (sym c.in-Statement.is) (names_on c.in_err-one-in-Statement.field-0.0 (stmt (env_of c.args.env.now) (around_of c.args.around.now) (before_of c.args.before.now) (next_of c.args.next.now) (stmt_of c.in-Statement.s)) (λ p. fine (alone p)) c.in_err-one-in-Statement.ensures.judged));
  counted = none_ok c.from_residual.result _ c.from_residual.ensures.0;
  meant = none_ok c.from_residual.result _ c.from_residual.ensures.0;
  numbered = none_ok c.from_residual.result _ c.from_residual.ensures.0;
  kept = none_ok c.from_residual.result _ c.from_residual.ensures.0;
}

pub block_item-returns-in_ok-one-in-Statement : goal.block_item-returns-in_ok-one-in-Statement
block_item-returns-in_ok-one-in-Statement t c = record {
  judged = found_as statement_trees_of c.all_found.result _ _ (ap (item_alone (env_of c.args.env.now) (around_of c.args.around.now) (before_of c.args.before.now) (next_of c.args.next.now)) c.in-Statement.is ∙ ap (λ r. gives r alone) c.in_ok-one-in-Statement.ensures.judged) (c.all_found.ensures _ c.alone.ensures);
  counted = on_ok c.all_found.result _ (c.in_ok-one-in-Statement.ensures.counted ∙ ap (after_item (env_of c.args.env.now) (before_of c.args.before.now) (next_of c.args.next.now)) (sym c.in-Statement.is));
  meant = on_ok c.all_found.result _ (ap env_of c.in_ok-one-in-Statement.ensures.kept ∙ ap (behind_item (env_of c.args.env.now) (next_of c.args.next.now)) (sym c.in-Statement.is));
  numbered = on_ok c.all_found.result _ (c.in_ok-one-in-Statement.ensures.numbered ∙ (ap (past_names (next_of c.args.next.now)) (sym (append-nil (names_of_stmt (stmt_of c.in-Statement.s)))) ∙ ap (λ x. past_names (next_of c.args.next.now) (names_of_block_item x)) (sym c.in-Statement.is)));
  kept = on_ok c.all_found.result _ ([], c.in_ok-one-in-Statement.ensures.kept);
}

pub statements-loop-s-init : goal.statements-loop-s-init
statements-loop-s-init t c =
    record {
      judged = laid_start (stmts (env_of c.args.env.now) (around_of c.args.around.now) (before_of c.args.before.now) (next_of c.args.next.now) (stmts_of c.args.ss.now)) ∙ ap (λ d. onto_laid d (stmts (env_of c.args.env.now) (around_of c.args.around.now) (before_of c.args.before.now) (next_of c.args.next.now) (stmts_of c.args.ss.now))) (sym c.no_statements-laid.ensures);
      counted = refl;
      numbered = refl;
      left = c.requires;
      kept = refl;
    }

pub statements-loop-s-preserved : goal.statements-loop-s-preserved
statements-loop-s-preserved t c =
    record {
      judged = stmt_more (env_of c.args.env.now) (env_of c.loop-s.env) (around_of c.args.around.now) (before_of c.loop-s.before) (before_of c.statement.new.before) (next_of c.loop-s.next) (next_of c.statement.new.next) c.args.ss.now c.loop-s.s-index c.s-item.result (statement_trees_of c.loop-s.laid) (statement_trees_of c.in_ok-laid.laid) (statement_tree_of c.in_ok-one.one) (stmts (env_of c.args.env.now) (around_of c.args.around.now) (before_of c.args.before.now) (next_of c.args.next.now) (stmts_of c.args.ss.now)) c.loop-s-test.true c.s-item.is (ap env_of c.loop-s.invariant.kept) c.loop-s.invariant.judged c.in_ok-one.ensures.judged c.in_ok-one.ensures.counted c.in_ok-one.ensures.numbered c.in_ok-laid.ensures;
      counted = stmt_counted (env_of c.args.env.now) (env_of c.loop-s.env) (before_of c.loop-s.before) (before_of c.statement.new.before) (past (before_of c.args.before.now) (calls_of_stmts (stmts_of c.args.ss.now)) (held_by_stmts (env_of c.args.env.now) (next_of c.args.next.now) (stmts_of c.args.ss.now))) (next_of c.loop-s.next) (next_of c.statement.new.next) c.args.ss.now c.loop-s.s-index c.s-item.result c.loop-s-test.true c.s-item.is (ap env_of c.loop-s.invariant.kept) c.loop-s.invariant.counted c.in_ok-one.ensures.counted c.in_ok-one.ensures.numbered;
      numbered = numbered_more (next_of c.loop-s.next) (next_of c.statement.new.next) (past_names (next_of c.args.next.now) (names_of_stmts (stmts_of c.args.ss.now))) (names_of_stmts (stmts_of (drop c.loop-s.s-index c.args.ss.now))) (names_of_stmt (stmt_of c.s-item.result)) (names_of_stmts (stmts_of (drop (c.loop-s.s-index + 1) c.args.ss.now))) c.loop-s.invariant.numbered (ap names_of_stmts (stmts_at c.args.ss.now c.loop-s.s-index c.s-item.result c.loop-s-test.true c.s-item.is)) c.in_ok-one.ensures.numbered;
      left = rest_have (next_of c.loop-s.next) (names_of_stmts (stmts_of (drop c.loop-s.s-index c.args.ss.now))) (names_of_stmt (stmt_of c.s-item.result)) (names_of_stmts (stmts_of (drop (c.loop-s.s-index + 1) c.args.ss.now))) (ap names_of_stmts (stmts_at c.args.ss.now c.loop-s.s-index c.s-item.result c.loop-s-test.true c.s-item.is)) c.loop-s.invariant.left (next_of c.statement.new.next) c.in_ok-one.ensures.numbered;
      kept = c.in_ok-one.ensures.kept ∙ c.loop-s.invariant.kept;
    }

pub statements-returns-in_err-one : goal.statements-returns-in_err-one
statements-returns-in_err-one t c = record {
  judged = raised statement_trees_of (stmts (env_of c.args.env.now) (around_of c.args.around.now) (before_of c.args.before.now) (next_of c.args.next.now) (stmts_of c.args.ss.now)) c.from_residual.result c.in_err-one.field-0.0 c.from_residual.ensures (stmt_fails c.in_err-one.field-0.0 (env_of c.args.env.now) (env_of c.loop-s.env) (around_of c.args.around.now) (before_of c.loop-s.before) (next_of c.loop-s.next) c.args.ss.now c.loop-s.s-index c.s-item.result (statement_trees_of c.loop-s.laid) (stmts (env_of c.args.env.now) (around_of c.args.around.now) (before_of c.args.before.now) (next_of c.args.next.now) (stmts_of c.args.ss.now)) c.loop-s-test.true c.s-item.is (ap env_of c.loop-s.invariant.kept) c.loop-s.invariant.judged c.in_err-one.ensures.judged);
  counted = none_ok c.from_residual.result _ c.from_residual.ensures.0;
  numbered = none_ok c.from_residual.result _ c.from_residual.ensures.0;
  kept = none_ok c.from_residual.result _ c.from_residual.ensures.0;
}

pub statements-returns : goal.statements-returns
statements-returns t c = record {
  judged = c.loop-s.invariant.judged ∙ at_drop_all (λ l. onto_laid (statement_trees_of c.loop-s.laid) (stmts (env_of c.args.env.now) (around_of c.args.around.now) (before_of c.loop-s.before) (next_of c.loop-s.next) (stmts_of l))) c.args.ss.now c.loop-s.s-index c.loop-s-test.false ∙ ap fine (more_none (statement_trees_of c.loop-s.laid));
  counted = sym (c.loop-s.invariant.counted ∙ at_drop_all (λ l. past (before_of c.loop-s.before) (calls_of_stmts (stmts_of l)) (held_by_stmts (env_of c.args.env.now) (next_of c.loop-s.next) (stmts_of l))) c.args.ss.now c.loop-s.s-index c.loop-s-test.false ∙ past_none (before_of c.loop-s.before));
  numbered = sym (c.loop-s.invariant.numbered ∙ at_drop_all (λ l. past_names (next_of c.loop-s.next) (names_of_stmts (stmts_of l))) c.args.ss.now c.loop-s.s-index c.loop-s-test.false);
  kept = c.loop-s.invariant.kept;
}

pub groups_of_switch-loop-group-init : goal.groups_of_switch-loop-group-init
groups_of_switch-loop-group-init t c =
    record {
      judged = groups_start (groups_of_switch (env_of c.args.env.now) (around_of c.args.around.now) (before_of c.args.before.now) (next_of c.args.next.now) c.args.i (groups_of c.args.groups.now)) ∙ ap (λ d. onto_groups d (groups_of_switch (env_of c.args.env.now) (around_of c.args.around.now) (before_of c.args.before.now) (next_of c.args.next.now) c.args.i (groups_of c.args.groups.now))) (sym c.no_labelled-laid.ensures);
      counted = refl;
      numbered = refl;
      left = c.requires;
      kept = refl;
    }

pub groups_of_switch-loop-group-preserved : goal.groups_of_switch-loop-group-preserved
groups_of_switch-loop-group-preserved t c =
    record {
      judged = group_more (around_of c.args.around.now) c.args.i c.args.groups.now c.loop-group.group-index c.group-item.result (env_of c.args.env.now) (env_of c.loop-group.env) (before_of c.loop-group.before) (before_of c.group_behind.new.before) (next_of c.loop-group.next) (next_of c.group_behind.new.next) (labelled_of c.loop-group.laid) (labelled_of c.in_ok-laid.laid) (groups_of_switch (env_of c.args.env.now) (around_of c.args.around.now) (before_of c.args.before.now) (next_of c.args.next.now) c.args.i (groups_of c.args.groups.now)) c.loop-group-test.true c.group-item.is (ap env_of c.loop-group.invariant.kept) c.loop-group.invariant.judged c.in_ok-laid.ensures.judged c.in_ok-laid.ensures.counted c.in_ok-laid.ensures.numbered;
      counted = group_counted (around_of c.args.around.now) c.args.i c.args.groups.now c.loop-group.group-index c.group-item.result (env_of c.args.env.now) (env_of c.loop-group.env) (before_of c.loop-group.before) (before_of c.group_behind.new.before) (past (before_of c.args.before.now) (calls_of_groups (groups_of c.args.groups.now)) (held_by_groups (env_of c.args.env.now) (next_of c.args.next.now) (groups_of c.args.groups.now))) (next_of c.loop-group.next) (next_of c.group_behind.new.next) c.loop-group-test.true c.group-item.is (ap env_of c.loop-group.invariant.kept) c.loop-group.invariant.counted c.in_ok-laid.ensures.counted c.in_ok-laid.ensures.numbered;
      numbered = numbered_more (next_of c.loop-group.next) (next_of c.group_behind.new.next) (past_names (next_of c.args.next.now) (names_of_groups (groups_of c.args.groups.now))) (names_of_groups (groups_of (drop c.loop-group.group-index c.args.groups.now))) (names_of_group c.group-item.result) (names_of_groups (groups_of (drop (c.loop-group.group-index + 1) c.args.groups.now))) c.loop-group.invariant.numbered (groups_names c.args.groups.now c.loop-group.group-index c.group-item.result c.loop-group-test.true c.group-item.is) c.in_ok-laid.ensures.numbered;
      left = rest_have (next_of c.loop-group.next) (names_of_groups (groups_of (drop c.loop-group.group-index c.args.groups.now))) (names_of_group c.group-item.result) (names_of_groups (groups_of (drop (c.loop-group.group-index + 1) c.args.groups.now))) (groups_names c.args.groups.now c.loop-group.group-index c.group-item.result c.loop-group-test.true c.group-item.is) c.loop-group.invariant.left (next_of c.group_behind.new.next) c.in_ok-laid.ensures.numbered;
      kept = c.in_ok-laid.ensures.kept ∙ c.loop-group.invariant.kept;
    }

pub groups_of_switch-returns-in_err-laid : goal.groups_of_switch-returns-in_err-laid
groups_of_switch-returns-in_err-laid t c = record {
  judged = raised labelled_of (groups_of_switch (env_of c.args.env.now) (around_of c.args.around.now) (before_of c.args.before.now) (next_of c.args.next.now) c.args.i (groups_of c.args.groups.now)) c.from_residual.result c.in_err-laid.field-0.0 c.from_residual.ensures (group_fails (around_of c.args.around.now) c.args.i c.args.groups.now c.loop-group.group-index c.group-item.result c.in_err-laid.field-0.0 (env_of c.args.env.now) (env_of c.loop-group.env) (before_of c.loop-group.before) (next_of c.loop-group.next) (labelled_of c.loop-group.laid) (groups_of_switch (env_of c.args.env.now) (around_of c.args.around.now) (before_of c.args.before.now) (next_of c.args.next.now) c.args.i (groups_of c.args.groups.now)) c.loop-group-test.true c.group-item.is (ap env_of c.loop-group.invariant.kept) c.loop-group.invariant.judged c.in_err-laid.ensures.judged);
  counted = none_ok c.from_residual.result _ c.from_residual.ensures.0;
  numbered = none_ok c.from_residual.result _ c.from_residual.ensures.0;
  kept = none_ok c.from_residual.result _ c.from_residual.ensures.0;
}

pub groups_of_switch-returns : goal.groups_of_switch-returns
groups_of_switch-returns t c = record {
  judged = c.loop-group.invariant.judged ∙ at_drop_all (λ l. onto_groups (labelled_of c.loop-group.laid) (groups_of_switch (env_of c.args.env.now) (around_of c.args.around.now) (before_of c.loop-group.before) (next_of c.loop-group.next) c.args.i (groups_of l))) c.args.groups.now c.loop-group.group-index c.loop-group-test.false ∙ ap fine (none_behind (labelled_of c.loop-group.laid));
  counted = sym (c.loop-group.invariant.counted ∙ at_drop_all (λ l. past (before_of c.loop-group.before) (calls_of_groups (groups_of l)) (held_by_groups (env_of c.args.env.now) (next_of c.loop-group.next) (groups_of l))) c.args.groups.now c.loop-group.group-index c.loop-group-test.false ∙ past_none (before_of c.loop-group.before));
  numbered = sym (c.loop-group.invariant.numbered ∙ at_drop_all (λ l. past_names (next_of c.loop-group.next) (names_of_groups (groups_of l))) c.args.groups.now c.loop-group.group-index c.loop-group-test.false);
  kept = c.loop-group.invariant.kept;
}

pub group_behind-returns-in_err-labels : goal.group_behind-returns-in_err-labels
group_behind-returns-in_err-labels t c = record {
  judged = raised labelled_of (group_behind (env_of c.args.env.now) (around_of c.args.around.now) (before_of c.args.before.now) (next_of c.args.next.now) c.args.i (labelled_of c.args.done) c.args.group.now) c.from_residual.result c.in_err-labels.field-0.0 c.from_residual.ensures (named_first c.in_err-labels.field-0.0 (group_behind (env_of c.args.env.now) (around_of c.args.around.now) (before_of c.args.before.now) (next_of c.args.next.now) c.args.i (labelled_of c.args.done) c.args.group.now) (labels_of (env_of c.args.env.now) c.args.i (labels_in c.args.group.now)) (labels_of (env_of c.args.env.now) c.args.i (labels_seen c.deref.result.now)) (stmts (env_of c.args.env.now) (around_of c.args.around.now) (before_of c.args.before.now) (next_of c.args.next.now) (stmts_in c.args.group.now)) (λ vs p. fine (labelled_before (labelled_of c.args.done) (labelled vs p no_labelled))) refl (λ j. labels_of (env_of c.args.env.now) c.args.i (labels_seen (c.deref.ensures.value j))) c.in_err-labels.ensures.judged);
  counted = none_ok c.from_residual.result _ c.from_residual.ensures.0;
  numbered = none_ok c.from_residual.result _ c.from_residual.ensures.0;
  kept = none_ok c.from_residual.result _ c.from_residual.ensures.0;
}

pub group_behind-returns-in_err-body : goal.group_behind-returns-in_err-body
group_behind-returns-in_err-body t c = record {
  judged = fails_second labelled_of c.from_residual-in_err-body.result c.in_err-body.field-0.0 (group_behind (env_of c.args.env.now) (around_of c.args.around.now) (before_of c.args.before.now) (next_of c.args.next.now) c.args.i (labelled_of c.args.done) c.args.group.now) (labels_of (env_of c.args.env.now) c.args.i (labels_in c.args.group.now)) (stmts (env_of c.args.env.now) (around_of c.args.around.now) (before_of c.args.before.now) (next_of c.args.next.now) (stmts_in c.args.group.now)) (stmts (env_of c.labels_of.new.env) (around_of c.args.around.now) (before_of c.args.before.now) (next_of c.args.next.now) (stmts_of c.deref-2.result.now)) (λ vs p. fine (labelled_before (labelled_of c.args.done) (labelled vs p no_labelled))) c.from_residual-in_err-body.ensures refl (λ j. stmts (env_of (c.in_ok-labels.ensures.kept j)) (around_of c.args.around.now) (before_of c.args.before.now) (next_of c.args.next.now) (stmts_of (c.deref-2.ensures.value j))) c.in_err-body.ensures.judged;
  counted = none_ok c.from_residual-in_err-body.result _ c.from_residual-in_err-body.ensures.0;
  numbered = none_ok c.from_residual-in_err-body.result _ c.from_residual-in_err-body.ensures.0;
  kept = none_ok c.from_residual-in_err-body.result _ c.from_residual-in_err-body.ensures.0;
}

pub group_behind-returns : goal.group_behind-returns
group_behind-returns t c = record {
  judged = (λ j. both ((sym (λ j. labels_of (env_of c.args.env.now) c.args.i (labels_seen (c.deref.ensures.value j))) ∙ c.in_ok-labels.ensures.judged) j) ((sym (λ j. stmts (env_of (c.in_ok-labels.ensures.kept j)) (around_of c.args.around.now) (before_of c.args.before.now) (next_of c.args.next.now) (stmts_of (c.deref-2.ensures.value j))) ∙ c.in_ok-body.ensures.judged) j) (λ vs p. fine (labelled_before (labelled_of c.args.done) (labelled vs p no_labelled)))) ∙ ap fine (sym c.in_ok-group_added.ensures);
  counted = c.in_ok-body.ensures.counted ∙ (λ j. after_stmts (env_of (c.in_ok-labels.ensures.kept j)) (before_of c.args.before.now) (next_of c.args.next.now) (stmts_of (c.deref-2.ensures.value j)));
  numbered = c.in_ok-body.ensures.numbered ∙ (ap (λ l. past_names (next_of c.args.next.now) (names_of_stmts (stmts_of l))) c.deref-2.ensures.value ∙ sym (names_past (next_of c.args.next.now) c.args.group.now));
  kept = c.in_ok-body.ensures.kept ∙ c.in_ok-labels.ensures.kept;
}

pub statement-returns-in-Block : goal.statement-returns-in-Block
statement-returns-in-Block t c = record {
  judged = subst (λ z. AgreesWith statement_tree_of c.block_statement.result (stmt (env_of c.args.env.now) (around_of c.args.around.now) (before_of c.args.before.now) (next_of c.args.next.now) z)) (block_seen c.args.s.now c.in-Block.items c.deref.result.now c.in-Block.is c.deref.ensures.value) c.block_statement.ensures.judged;
  counted = subst (λ z. OnOk c.block_statement.result (before_of c.block_statement.new.before ≡ after_stmt (env_of c.args.env.now) (before_of c.args.before.now) (next_of c.args.next.now) z)) (block_seen c.args.s.now c.in-Block.items c.deref.result.now c.in-Block.is c.deref.ensures.value) c.block_statement.ensures.counted;
  numbered = subst (λ z. OnOk c.block_statement.result (next_of c.block_statement.new.next ≡ past_names (next_of c.args.next.now) (names_of_stmt z))) (block_seen c.args.s.now c.in-Block.items c.deref.result.now c.in-Block.is c.deref.ensures.value) c.block_statement.ensures.numbered;
  kept = c.block_statement.ensures.kept;
}

pub statement-returns-in-Empty : goal.statement-returns-in-Empty
statement-returns-in-Empty t c = record {
  judged = found_as statement_tree_of c.found.result _ (bare typed.empty) (ap (λ k. stmt (env_of c.args.env.now) (around_of c.args.around.now) (before_of c.args.before.now) (next_of c.args.next.now) (stmt_at c.args.s.now.at k)) c.in-Empty.is) (c.found.ensures (bare typed.empty) c.bare.ensures);
  counted = on_ok c.found.result _ (sym (past_none (before_of c.args.before.now)) ∙ ap (after_stmt (env_of c.args.env.now) (before_of c.args.before.now) (next_of c.args.next.now)) (ap (stmt_at c.args.s.now.at) (sym c.in-Empty.is)));
  numbered = on_ok c.found.result _ (ap (λ z. past_names (next_of c.args.next.now) (names_of_stmt z)) (ap (stmt_at c.args.s.now.at) (sym c.in-Empty.is)));
  kept = on_ok c.found.result _ refl;
}

pub statement-returns-in-Expr : goal.statement-returns-in-Expr
statement-returns-in-Expr t c = record {
  judged = subst (λ z. AgreesWith statement_tree_of c.evaluated.result (stmt (env_of c.args.env.now) (around_of c.args.around.now) (before_of c.args.before.now) (next_of c.args.next.now) z)) (ap (λ x. evaluate c.args.s.now.at (expr_of x)) c.deref-in-Expr.ensures ∙ ap (stmt_at c.args.s.now.at) (sym c.in-Expr.is)) c.evaluated.ensures.judged;
  counted = subst (λ z. OnOk c.evaluated.result (before_of c.evaluated.new.before ≡ after_stmt (env_of c.args.env.now) (before_of c.args.before.now) (next_of c.args.next.now) z)) (ap (λ x. evaluate c.args.s.now.at (expr_of x)) c.deref-in-Expr.ensures ∙ ap (stmt_at c.args.s.now.at) (sym c.in-Expr.is)) c.evaluated.ensures.counted;
  numbered = on_ok c.evaluated.result _ (ap (λ z. past_names (next_of c.args.next.now) (names_of_stmt z)) (ap (stmt_at c.args.s.now.at) (sym c.in-Expr.is)));
  kept = c.evaluated.ensures.kept;
}

pub statement-returns-in-Return : goal.statement-returns-in-Return
statement-returns-in-Return t c = record {
  judged = subst (λ z. AgreesWith statement_tree_of c.returned.result (stmt (env_of c.args.env.now) (around_of c.args.around.now) (before_of c.args.before.now) (next_of c.args.next.now) z)) (ap (stmt_at c.args.s.now.at) (sym c.in-Return.is)) c.returned.ensures.judged;
  counted = subst (λ z. OnOk c.returned.result (before_of c.returned.new.before ≡ after_stmt (env_of c.args.env.now) (before_of c.args.before.now) (next_of c.args.next.now) z)) (ap (stmt_at c.args.s.now.at) (sym c.in-Return.is)) c.returned.ensures.counted;
  numbered = on_ok c.returned.result _ (ap (λ z. past_names (next_of c.args.next.now) (names_of_stmt z)) (ap (stmt_at c.args.s.now.at) (sym c.in-Return.is)));
  kept = c.returned.ensures.kept;
}

pub statement-returns-in-Break : goal.statement-returns-in-Break
statement-returns-in-Break t c = record {
  judged = subst (λ z. AgreesWith statement_tree_of c.broken_off.result (stmt (env_of c.args.env.now) (around_of c.args.around.now) (before_of c.args.before.now) (next_of c.args.next.now) z)) (ap (stmt_at c.args.s.now.at) (sym c.in-Break.is)) c.broken_off.ensures;
  counted = on_ok c.broken_off.result _ (sym (past_none (before_of c.args.before.now)) ∙ ap (after_stmt (env_of c.args.env.now) (before_of c.args.before.now) (next_of c.args.next.now)) (ap (stmt_at c.args.s.now.at) (sym c.in-Break.is)));
  numbered = on_ok c.broken_off.result _ (ap (λ z. past_names (next_of c.args.next.now) (names_of_stmt z)) (ap (stmt_at c.args.s.now.at) (sym c.in-Break.is)));
  kept = on_ok c.broken_off.result _ refl;
}

pub statement-returns-in-Continue : goal.statement-returns-in-Continue
statement-returns-in-Continue t c = record {
  judged = subst (λ z. AgreesWith statement_tree_of c.continued.result (stmt (env_of c.args.env.now) (around_of c.args.around.now) (before_of c.args.before.now) (next_of c.args.next.now) z)) (ap (stmt_at c.args.s.now.at) (sym c.in-Continue.is)) c.continued.ensures;
  counted = on_ok c.continued.result _ (sym (past_none (before_of c.args.before.now)) ∙ ap (after_stmt (env_of c.args.env.now) (before_of c.args.before.now) (next_of c.args.next.now)) (ap (stmt_at c.args.s.now.at) (sym c.in-Continue.is)));
  numbered = on_ok c.continued.result _ (ap (λ z. past_names (next_of c.args.next.now) (names_of_stmt z)) (ap (stmt_at c.args.s.now.at) (sym c.in-Continue.is)));
  kept = on_ok c.continued.result _ refl;
}

pub statement-returns-in-While : goal.statement-returns-in-While
statement-returns-in-While t c = record {
  judged = subst (λ z. AgreesWith statement_tree_of c.while_statement.result (stmt (env_of c.args.env.now) (around_of c.args.around.now) (before_of c.args.before.now) (next_of c.args.next.now) z)) ((λ i. while_loop c.args.s.now.at (expr_of (c.deref-in-While-2.ensures i)) (stmt_of (c.deref-in-While.ensures i))) ∙ ap (stmt_at c.args.s.now.at) (sym c.in-While.is)) c.while_statement.ensures.judged;
  counted = subst (λ z. OnOk c.while_statement.result (before_of c.while_statement.new.before ≡ after_stmt (env_of c.args.env.now) (before_of c.args.before.now) (next_of c.args.next.now) z)) ((λ i. while_loop c.args.s.now.at (expr_of (c.deref-in-While-2.ensures i)) (stmt_of (c.deref-in-While.ensures i))) ∙ ap (stmt_at c.args.s.now.at) (sym c.in-While.is)) c.while_statement.ensures.counted;
  numbered = subst (λ z. OnOk c.while_statement.result (next_of c.while_statement.new.next ≡ past_names (next_of c.args.next.now) (names_of_stmt z))) ((λ i. while_loop c.args.s.now.at (expr_of (c.deref-in-While-2.ensures i)) (stmt_of (c.deref-in-While.ensures i))) ∙ ap (stmt_at c.args.s.now.at) (sym c.in-While.is)) c.while_statement.ensures.numbered;
  kept = c.while_statement.ensures.kept;
}

pub statement-returns-in-Do : goal.statement-returns-in-Do
statement-returns-in-Do t c = record {
  judged = subst (λ z. AgreesWith statement_tree_of c.do_statement.result (stmt (env_of c.args.env.now) (around_of c.args.around.now) (before_of c.args.before.now) (next_of c.args.next.now) z)) ((λ i. do_loop c.args.s.now.at (stmt_of (c.deref-in-Do.ensures i)) (expr_of (c.deref-in-Do-2.ensures i))) ∙ ap (stmt_at c.args.s.now.at) (sym c.in-Do.is)) c.do_statement.ensures.judged;
  counted = subst (λ z. OnOk c.do_statement.result (before_of c.do_statement.new.before ≡ after_stmt (env_of c.args.env.now) (before_of c.args.before.now) (next_of c.args.next.now) z)) ((λ i. do_loop c.args.s.now.at (stmt_of (c.deref-in-Do.ensures i)) (expr_of (c.deref-in-Do-2.ensures i))) ∙ ap (stmt_at c.args.s.now.at) (sym c.in-Do.is)) c.do_statement.ensures.counted;
  numbered = subst (λ z. OnOk c.do_statement.result (next_of c.do_statement.new.next ≡ past_names (next_of c.args.next.now) (names_of_stmt z))) ((λ i. do_loop c.args.s.now.at (stmt_of (c.deref-in-Do.ensures i)) (expr_of (c.deref-in-Do-2.ensures i))) ∙ ap (stmt_at c.args.s.now.at) (sym c.in-Do.is)) c.do_statement.ensures.numbered;
  kept = c.do_statement.ensures.kept;
}

pub statement-returns-in-For : goal.statement-returns-in-For
statement-returns-in-For t c = record {
  judged = subst (λ z. AgreesWith statement_tree_of c.for_statement.result (stmt (env_of c.args.env.now) (around_of c.args.around.now) (before_of c.args.before.now) (next_of c.args.next.now) z)) (ap (λ x. for_loop c.args.s.now.at (first_of_head c.in-For.first) (expr_behind c.in-For.test) (expr_behind c.in-For.step) (stmt_of x)) c.deref-in-For.ensures ∙ ap (stmt_at c.args.s.now.at) (sym c.in-For.is)) c.for_statement.ensures.judged;
  counted = subst (λ z. OnOk c.for_statement.result (before_of c.for_statement.new.before ≡ after_stmt (env_of c.args.env.now) (before_of c.args.before.now) (next_of c.args.next.now) z)) (ap (λ x. for_loop c.args.s.now.at (first_of_head c.in-For.first) (expr_behind c.in-For.test) (expr_behind c.in-For.step) (stmt_of x)) c.deref-in-For.ensures ∙ ap (stmt_at c.args.s.now.at) (sym c.in-For.is)) c.for_statement.ensures.counted;
  numbered = subst (λ z. OnOk c.for_statement.result (next_of c.for_statement.new.next ≡ past_names (next_of c.args.next.now) (names_of_stmt z))) (ap (λ x. for_loop c.args.s.now.at (first_of_head c.in-For.first) (expr_behind c.in-For.test) (expr_behind c.in-For.step) (stmt_of x)) c.deref-in-For.ensures ∙ ap (stmt_at c.args.s.now.at) (sym c.in-For.is)) c.for_statement.ensures.numbered;
  kept = c.for_statement.ensures.kept;
}

pub statement-returns-in-Switch : goal.statement-returns-in-Switch
statement-returns-in-Switch t c = record {
  judged = subst (λ z. AgreesWith statement_tree_of c.switch_statement.result (stmt (env_of c.args.env.now) (around_of c.args.around.now) (before_of c.args.before.now) (next_of c.args.next.now) z)) (switch_seen c.args.s.now c.in-Switch.on c.in-Switch.groups c.deref-in-Switch-2.result.now c.deref-in-Switch.result.now c.in-Switch.is c.deref-in-Switch-2.ensures c.deref-in-Switch.ensures.value) c.switch_statement.ensures.judged;
  counted = subst (λ z. OnOk c.switch_statement.result (before_of c.switch_statement.new.before ≡ after_stmt (env_of c.args.env.now) (before_of c.args.before.now) (next_of c.args.next.now) z)) (switch_seen c.args.s.now c.in-Switch.on c.in-Switch.groups c.deref-in-Switch-2.result.now c.deref-in-Switch.result.now c.in-Switch.is c.deref-in-Switch-2.ensures c.deref-in-Switch.ensures.value) c.switch_statement.ensures.counted;
  numbered = subst (λ z. OnOk c.switch_statement.result (next_of c.switch_statement.new.next ≡ past_names (next_of c.args.next.now) (names_of_stmt z))) (switch_seen c.args.s.now c.in-Switch.on c.in-Switch.groups c.deref-in-Switch-2.result.now c.deref-in-Switch.result.now c.in-Switch.is c.deref-in-Switch-2.ensures c.deref-in-Switch.ensures.value) c.switch_statement.ensures.numbered;
  kept = c.switch_statement.ensures.kept;
}

pub statement-returns-in_err-parts-in-If : goal.statement-returns-in_err-parts-in-If
statement-returns-in_err-parts-in-If t c = record {
  judged = raised statement_tree_of (stmt (env_of c.args.env.now) (around_of c.args.around.now) (before_of c.args.before.now) (next_of c.args.next.now) (stmt_of c.args.s.now)) c.from_residual.result c.in_err-parts-in-If.field-0.0 c.from_residual.ensures (subst (λ z. Names c.in_err-parts-in-If.field-0.0 (faults (stmt (env_of c.args.env.now) (around_of c.args.around.now) (before_of c.args.before.now) (next_of c.args.next.now) z))) (if_seen c.args.s.now c.in-If.test c.in-If.yes c.in-If.no c.deref-in-If-2.result.now c.deref-in-If.result.now c.in-If.is c.deref-in-If-2.ensures c.deref-in-If.ensures) (if_fails c.in_err-parts-in-If.field-0.0 (env_of c.args.env.now) (around_of c.args.around.now) (before_of c.args.before.now) (next_of c.args.next.now) c.args.s.now.at c.deref-in-If-2.result.now (stmt_of c.deref-in-If.result.now) (else_behind c.in-If.no) c.in_err-parts-in-If.ensures.judged));
  counted = none_ok c.from_residual.result _ c.from_residual.ensures.0;
  numbered = none_ok c.from_residual.result _ c.from_residual.ensures.0;
  kept = none_ok c.from_residual.result _ c.from_residual.ensures.0;
}

pub statement-returns-in-None : goal.statement-returns-in-None
statement-returns-in-None t c = record {
  judged = found_as statement_tree_of c.found-in-None.result _ _
      (ap (stmt (env_of c.args.env.now) (around_of c.args.around.now) (before_of c.args.before.now) (next_of c.args.next.now)) (sym (ap (λ o. if_with c.args.s.now.at c.deref-in-If-2.result.now (stmt_of c.deref-in-If.result.now) (else_behind o)) (sym c.in-None.is) ∙ (if_seen c.args.s.now c.in-If.test c.in-If.yes c.in-If.no c.deref-in-If-2.result.now c.deref-in-If.result.now c.in-If.is c.deref-in-If-2.ensures c.deref-in-If.ensures))) ∙ two_as (condition_at c.args.s.now.at (value (env_of c.args.env.now) (before_of c.args.before.now) (expr_of c.deref-in-If-2.result.now))) (stmt (env_of c.args.env.now) (around_of c.args.around.now) (after (before_of c.args.before.now) (expr_of c.deref-in-If-2.result.now)) (next_of c.args.next.now) (stmt_of c.deref-in-If.result.now)) (λ d p. fine (with_tree p (typed.if_else d p.tree typed.empty))) (tested_of c.in_ok-parts-in-If.parts) c.in_ok-parts-in-If.ensures.judged)
      (c.found-in-None.ensures _ c.only_if.ensures);
  counted = on_ok c.found-in-None.result _ (c.in_ok-parts-in-If.ensures.counted ∙ (after_while (env_of c.args.env.now) (before_of c.args.before.now) (next_of c.args.next.now) c.args.s.now.at (expr_of c.deref-in-If-2.result.now) (stmt_of c.deref-in-If.result.now) ∙ ap (after_stmt (env_of c.args.env.now) (before_of c.args.before.now) (next_of c.args.next.now)) (ap (λ o. if_with c.args.s.now.at c.deref-in-If-2.result.now (stmt_of c.deref-in-If.result.now) (else_behind o)) (sym c.in-None.is) ∙ (if_seen c.args.s.now c.in-If.test c.in-If.yes c.in-If.no c.deref-in-If-2.result.now c.deref-in-If.result.now c.in-If.is c.deref-in-If-2.ensures c.deref-in-If.ensures))));
  numbered = on_ok c.found-in-None.result _ (c.in_ok-parts-in-If.ensures.numbered ∙ ap (λ z. past_names (next_of c.args.next.now) (names_of_stmt z)) (ap (λ o. if_with c.args.s.now.at c.deref-in-If-2.result.now (stmt_of c.deref-in-If.result.now) (else_behind o)) (sym c.in-None.is) ∙ (if_seen c.args.s.now c.in-If.test c.in-If.yes c.in-If.no c.deref-in-If-2.result.now c.deref-in-If.result.now c.in-If.is c.deref-in-If-2.ensures c.deref-in-If.ensures)));
  kept = on_ok c.found-in-None.result _ c.in_ok-parts-in-If.ensures.kept;
}

pub statement-returns-in-Some-clause-counted : goal.statement-returns-in-Some-clause-counted
statement-returns-in-Some-clause-counted t c =
    ok_as c.else_part.result _ _ _ c.else_part.ensures.counted ((λ i. after_stmt (env_of (c.in_ok-parts-in-If.ensures.kept i)) (c.in_ok-parts-in-If.ensures.counted i) (c.in_ok-parts-in-If.ensures.numbered i) (stmt_of c.deref-in-Some.result.now)) ∙ (after_else (env_of c.args.env.now) (before_of c.args.before.now) (next_of c.args.next.now) c.args.s.now.at (expr_of c.deref-in-If-2.result.now) (stmt_of c.deref-in-If.result.now) (stmt_of c.deref-in-Some.result.now) ∙ ap (after_stmt (env_of c.args.env.now) (before_of c.args.before.now) (next_of c.args.next.now)) (ap (λ w. if_else c.args.s.now.at (expr_of c.deref-in-If-2.result.now) (stmt_of c.deref-in-If.result.now) (stmt_of w)) c.deref-in-Some.ensures ∙ (ap (λ o. if_with c.args.s.now.at c.deref-in-If-2.result.now (stmt_of c.deref-in-If.result.now) (else_behind o)) (sym c.in-Some.is) ∙ (if_seen c.args.s.now c.in-If.test c.in-If.yes c.in-If.no c.deref-in-If-2.result.now c.deref-in-If.result.now c.in-If.is c.deref-in-If-2.ensures c.deref-in-If.ensures)))))

pub statement-returns-in-Some-clause-numbered : goal.statement-returns-in-Some-clause-numbered
statement-returns-in-Some-clause-numbered t c =
    ok_as c.else_part.result _ _ _ c.else_part.ensures.numbered (ap (λ n. past_names n (names_of_stmt (stmt_of c.deref-in-Some.result.now))) c.in_ok-parts-in-If.ensures.numbered ∙ (sym (names_append (next_of c.args.next.now) (names_of_stmt (stmt_of c.deref-in-If.result.now)) (names_of_stmt (stmt_of c.deref-in-Some.result.now))) ∙ ap (λ w. past_names (next_of c.args.next.now) (names_of_stmt w)) (ap (λ w. if_else c.args.s.now.at (expr_of c.deref-in-If-2.result.now) (stmt_of c.deref-in-If.result.now) (stmt_of w)) c.deref-in-Some.ensures ∙ (ap (λ o. if_with c.args.s.now.at c.deref-in-If-2.result.now (stmt_of c.deref-in-If.result.now) (else_behind o)) (sym c.in-Some.is) ∙ (if_seen c.args.s.now c.in-If.test c.in-If.yes c.in-If.no c.deref-in-If-2.result.now c.deref-in-If.result.now c.in-If.is c.deref-in-If-2.ensures c.deref-in-If.ensures)))))

pub for_parts-statement-requires : goal.for_parts-statement-requires
for_parts-statement-requires t c =
    let left : HaveNumbers (next_of c.first_of.new.next) (names_of_stmt (stmt_of c.args.body.now)) =
    later_have (next_of c.args.next.now) (next_of c.first_of.new.next) (names_of_first (first_of_head c.args.first.now)) (names_of_stmt (stmt_of c.args.body.now)) c.in_ok-head.ensures.numbered c.requires in
    search rules

pub group_behind-statements-requires : goal.group_behind-statements-requires
group_behind-statements-requires t c =
    let left : HaveNumbers (next_of c.args.next.now) (names_of_stmts (stmts_of c.deref-2.result.now)) =
    subst (λ l. HaveNumbers (next_of c.args.next.now) (names_of_stmts (stmts_of l))) (sym c.deref-2.ensures.value) (subst (HaveNumbers (next_of c.args.next.now)) (group_names c.args.group.now) c.requires) in
    search (rules, the_lemmas)

pub groups_of_switch-group_behind-requires : goal.groups_of_switch-group_behind-requires
groups_of_switch-group_behind-requires t c =
    let left : HaveNumbers (next_of c.loop-group.next) (names_of_group c.group-item.result) =
    own_have (next_of c.loop-group.next) (names_of_groups (groups_of (drop c.loop-group.group-index c.args.groups.now))) (names_of_group c.group-item.result) (names_of_groups (groups_of (drop (c.loop-group.group-index + 1) c.args.groups.now))) (groups_names c.args.groups.now c.loop-group.group-index c.group-item.result c.loop-group-test.true c.group-item.is) c.loop-group.invariant.left in
    search (rules, the_lemmas)

pub items_of_block-block_item-requires : goal.items_of_block-block_item-requires
items_of_block-block_item-requires t c =
    let left : HaveNumbers (next_of c.loop-item.next) (names_of_block_item c.item-item.result) =
    own_have (next_of c.loop-item.next) (names_of_block (block_items_of (drop c.loop-item.item-index c.args.items.now))) (names_of_block_item c.item-item.result) (names_of_block (block_items_of (drop (c.loop-item.item-index + 1) c.args.items.now))) (items_names c.args.items.now c.loop-item.item-index c.item-item.result c.loop-item-test.true c.item-item.is) c.loop-item.invariant.left in
    search (rules, the_lemmas)

pub statement-block_statement-requires : goal.statement-block_statement-requires
statement-block_statement-requires t c =
    let left : HaveNumbers (next_of c.args.next.now) (names_of_block (block_items_of c.deref.result.now)) =
    subst (λ z. HaveNumbers (next_of c.args.next.now) (names_of_stmt z)) (sym (block_seen c.args.s.now c.in-Block.items c.deref.result.now c.in-Block.is c.deref.ensures.value)) c.requires in
    search (rules, the_lemmas)

pub statement-else_part-requires : goal.statement-else_part-requires
statement-else_part-requires t c =
    let whole : if_else c.args.s.now.at (expr_of c.deref-in-If-2.result.now) (stmt_of c.deref-in-If.result.now) (stmt_of c.deref-in-Some.result.now) ≡ stmt_of c.args.s.now =
    ap (λ w. if_else c.args.s.now.at (expr_of c.deref-in-If-2.result.now) (stmt_of c.deref-in-If.result.now) (stmt_of w)) c.deref-in-Some.ensures
    ∙ (ap (λ o. if_with c.args.s.now.at c.deref-in-If-2.result.now (stmt_of c.deref-in-If.result.now) (else_behind o)) (sym c.in-Some.is) ∙ if_seen c.args.s.now c.in-If.test c.in-If.yes c.in-If.no c.deref-in-If-2.result.now c.deref-in-If.result.now c.in-If.is c.deref-in-If-2.ensures c.deref-in-If.ensures) in
    let left : HaveNumbers (next_of c.tested.new.next) (names_of_stmt (stmt_of c.deref-in-Some.result.now)) =
    later_have (next_of c.args.next.now) (next_of c.tested.new.next) (names_of_stmt (stmt_of c.deref-in-If.result.now)) (names_of_stmt (stmt_of c.deref-in-Some.result.now)) c.in_ok-parts-in-If.ensures.numbered
    (subst (λ z. HaveNumbers (next_of c.args.next.now) (names_of_stmt z)) (sym whole) c.requires) in
    search (rules, the_lemmas)

pub statement-switch_statement-requires : goal.statement-switch_statement-requires
statement-switch_statement-requires t c =
    let left : HaveNumbers (next_of c.args.next.now) (names_of_groups (groups_of c.deref-in-Switch.result.now)) =
    subst (λ z. HaveNumbers (next_of c.args.next.now) (names_of_stmt z)) (sym (switch_seen c.args.s.now c.in-Switch.on c.in-Switch.groups c.deref-in-Switch-2.result.now c.deref-in-Switch.result.now c.in-Switch.is c.deref-in-Switch-2.ensures c.deref-in-Switch.ensures.value)) c.requires in
    search (rules, the_lemmas)
