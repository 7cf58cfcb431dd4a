use Rattle.std.proofs.Common.{◌∙◌}
use Rattle.c_check_bodies.proofs.LaidLemmas.{laid_as}
use Rattle.c_check_statements.proofs.loops.for_loop.Goals as goal
use Rattle.c_check_bodies.specs.StatementTreeView.{statement_tree_of}
use Rattle.c_check_bodies.specs.VariablesView.{both_declared, laid_with, variables_of}
use Rattle.c_tree.proofs.Rows.{for_is}
use Rattle.c_tree.specs.declared.tree.TStmt.TheVariants.{For}
use Rattle.c_tree.specs.Tree.{for_loop}
use Rattle.c_tree.specs.View.{maybe_of, stmt_of, stmts_of}

pub returns : goal.returns
returns c =
    laid_as statement_tree_of c.with_variables.result (laid_with (variables_of c.in_ok-all.all) (stmt_of (For c.into_parts-trees.result.0 c.args.test c.args.step c.into_parts-tree.result.0)))
    (laid_with (both_declared (variables_of c.args.first.variables) (variables_of c.args.body.variables)) (for_loop (stmts_of c.args.first.trees.items) (maybe_of c.args.test) (maybe_of c.args.step) (stmt_of c.args.body.tree.value)))
    (λ i. laid_with ((c.in_ok-all.ensures ∙ (λ j. both_declared (variables_of (c.into_parts-trees.ensures.variables j)) (variables_of (c.into_parts-tree.ensures.variables j)))) i)
    (((λ j. stmt_of (For (c.into_parts-trees.ensures.trees j) c.args.test c.args.step (c.into_parts-tree.ensures.tree j))) ∙ for_is c.args.first.trees c.args.test c.args.step c.args.body.tree) i)) c.with_variables.ensures
