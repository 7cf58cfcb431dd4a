-- What statements of Rust give, as the rules have it.
use Rattle.c_check_bodies.specs.declared.statement_tree.StatementTree.{StatementTree as TreeOfStatement}
use Rattle.c_check_bodies.specs.declared.statement_tree.StatementTrees.{StatementTrees}
use Rattle.c_check_bodies.specs.VariablesView.{laid_with, variables_of}
use Rattle.c_rules.specs.Blocks.{StatementTree}
use Rattle.c_tree.specs.Tree.{Stmt, Stmts}
use Rattle.c_tree.specs.View.{stmt_of, stmts_of}

abbrev pub statement_tree_of : TreeOfStatement → StatementTree Stmt
statement_tree_of l = laid_with (variables_of l.variables) (stmt_of l.tree.value)

abbrev pub statement_trees_of : StatementTrees → StatementTree Stmts
statement_trees_of l = laid_with (variables_of l.variables) (stmts_of l.trees.items)
