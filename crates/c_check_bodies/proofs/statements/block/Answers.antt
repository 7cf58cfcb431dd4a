use Rattle.std.proofs.Common.{ap, ◌∙◌}
use Rattle.c_check_bodies.proofs.LaidLemmas.{laid_as}
use Rattle.c_check_bodies.proofs.statements.block.Goals as goal
use Rattle.c_check_bodies.specs.StatementTreeView.{statement_tree_of}
use Rattle.c_check_bodies.specs.VariablesView.{laid_with, variables_of}
use Rattle.c_tree.proofs.Rows.{block_is}
use Rattle.c_tree.specs.declared.tree.TStmt.TheVariants.{Block}
use Rattle.c_tree.specs.Tree.{block}
use Rattle.c_tree.specs.View.{stmt_of, stmts_of}

pub returns : goal.returns
returns c =
    laid_as statement_tree_of c.with_variables.result (laid_with (variables_of c.into_parts-trees.result.1) (stmt_of (Block c.into_parts-trees.result.0))) (laid_with (variables_of c.args.items.variables) (block (stmts_of c.args.items.trees.items)))
    ((λ i. laid_with (variables_of (c.into_parts-trees.ensures.variables i)) (stmt_of (Block (c.into_parts-trees.ensures.trees i)))) ∙ ap (laid_with (variables_of c.args.items.variables)) (block_is c.args.items.trees)) c.with_variables.ensures
