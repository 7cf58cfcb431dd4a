use Rattle.c_check_bodies.specs.StatementTreeView.{statement_tree_of}
use Rattle.c_check_declarations.proofs.Parts.{raised}
use Rattle.c_check_scopes.specs.View.{before_of, env_of}
use Rattle.c_check_expressions.proofs.Exits.{on_ok}
use Rattle.c_check_statements.proofs.NodeLemmas.{found_as, then_fails, then_given}
use Rattle.c_check_statements.proofs.heads.evaluated.Goals as goal
use Rattle.c_rules.specs.Blocks.{bare}
use Rattle.c_rules.specs.Checked.{gives}
use Rattle.c_rules.specs.Expressions.{value}
use Rattle.c_rules.specs.TypedExpression.{tree_of}
use Rattle.c_syntax.specs.View.{expr_of}
use Rattle.c_tree.specs.Tree.{evaluate}
use Rattle.c_tree.specs.View.{expr_of as tree_seen}

pub returns-in_err-tree-clause-judged : goal.returns-in_err-tree-clause-judged
returns-in_err-tree-clause-judged c =
    let given = value (env_of c.args.env.now) (before_of c.args.before.now) (expr_of c.args.e.now) in
    raised statement_tree_of (gives given (λ g. bare (evaluate (tree_of g)))) c.from_residual.result c.in_err-tree.field-0.0 c.from_residual.ensures (then_fails c.in_err-tree.field-0.0 given tree_of (λ g. bare (evaluate (tree_of g))) c.in_err-tree.ensures.judged)

pub returns : goal.returns
returns c = record {
  judged = found_as statement_tree_of c.found.result _ _ (then_given (value (env_of c.args.env.now) (before_of c.args.before.now) (expr_of c.args.e.now)) tree_of (λ t. bare (evaluate t)) (tree_seen c.in_ok-tree.tree) c.in_ok-tree.ensures.judged) (c.found.ensures _ c.expression_statement.ensures);
  counted = on_ok c.found.result _ c.in_ok-tree.ensures.counted;
  kept = on_ok c.found.result _ c.in_ok-tree.ensures.kept;
}
