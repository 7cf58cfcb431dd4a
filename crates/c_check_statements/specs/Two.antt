-- For private contracts and proofs alone: two parts that stand beside each other.
use Rattle.std.specs.Prelude.{Option, Box}
use Rattle.std.specs.Global.{Global}
use Rattle.c_check_bodies.specs.declared.statement_tree.StatementTree.{StatementTree as TreeOfStatement}
use Rattle.c_check_bodies.specs.StatementTreeView.{statement_tree_of}
use Rattle.c_rules.specs.Blocks.{StatementTree}
use Rattle.c_rules.specs.Checked as rules
use Rattle.c_tree.specs.declared.tree.TExpr.{TExpr}
use Rattle.c_tree.specs.Tree.{Expr, Maybe, Stmt}
use Rattle.c_tree.specs.View.{expr_of, maybe_of}

abbrev pub two_of : Option (Box TExpr Global) × Option (Box TExpr Global) → rules.Two Maybe Maybe
two_of p = record { first = maybe_of p.0; second = maybe_of p.1 }

abbrev pub tested_of : TExpr × TreeOfStatement → rules.Two Expr (StatementTree Stmt)
tested_of p = record { first = expr_of p.0; second = statement_tree_of p.1 }
