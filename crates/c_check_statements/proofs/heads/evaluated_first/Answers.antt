use Rattle.c_check_bodies.specs.StatementTreeView.{statement_tree_of, statement_trees_of}
use Rattle.c_check_declarations.proofs.Parts.{raised}
use Rattle.c_check_scopes.specs.View.{before_of, env_of}
use Rattle.c_check_expressions.proofs.Exits.{on_ok}
use Rattle.c_check_statements.proofs.NodeLemmas.{found_as, then_fails, then_given}
use Rattle.c_check_statements.proofs.heads.evaluated_first.Goals as goal
use Rattle.c_rules.specs.Blocks.{alone, bare}
use Rattle.c_rules.specs.Checked.{gives}
use Rattle.c_rules.specs.Expressions.{value}
use Rattle.c_rules.specs.TypedExpression.{tree_of}
use Rattle.c_syntax.specs.View.{expr_of}
use Rattle.c_tree.specs.Tree.{evaluate}

pub returns-in_err-one-clause-judged : goal.returns-in_err-one-clause-judged
returns-in_err-one-clause-judged c =
    let given = value (env_of c.args.env.now) (before_of c.args.before.now) (expr_of c.args.e.now) in
    raised statement_trees_of (gives given (λ g. alone (bare (evaluate (tree_of g))))) c.from_residual.result c.in_err-one.field-0.0 c.from_residual.ensures (then_fails c.in_err-one.field-0.0 given (λ g. bare (evaluate (tree_of g))) (λ g. alone (bare (evaluate (tree_of g)))) c.in_err-one.ensures.judged)

pub returns : goal.returns
returns c = record {
  judged = found_as statement_trees_of c.all_found.result _ _ (then_given (value (env_of c.args.env.now) (before_of c.args.before.now) (expr_of c.args.e.now)) (λ g. bare (evaluate (tree_of g))) alone (statement_tree_of c.in_ok-one.one) c.in_ok-one.ensures.judged) (c.all_found.ensures _ c.alone.ensures);
  counted = on_ok c.all_found.result _ c.in_ok-one.ensures.counted;
  kept = on_ok c.all_found.result _ c.in_ok-one.ensures.kept;
}
