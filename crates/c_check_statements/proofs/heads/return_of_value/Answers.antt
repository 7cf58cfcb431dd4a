use Rattle.c_check_bodies.specs.StatementTreeView.{statement_tree_of}
use Rattle.c_check_declarations.specs.TypedExpressionView.{typed_expression_of}
use Rattle.c_check_expressions.proofs.Exits.{fails_on, on_ended, on_ok}
use Rattle.c_check_scopes.specs.View.{before_of, env_of}
use Rattle.c_check_statements.proofs.NodeLemmas.{given_twice}
use Rattle.c_check_statements.proofs.heads.return_of_value.Goals as goal
use Rattle.c_rules.specs.Blocks.{StatementTree, bare}
use Rattle.c_rules.specs.Checked.{Checked, gives}
use Rattle.c_rules.specs.Conversions.{as_if_assigned}
use Rattle.c_rules.specs.Expressions.{value}
use Rattle.c_rules.specs.Statements.{returned}
use Rattle.c_rules.specs.TypedExpression.{TypedExpression, tree_of}
use Rattle.c_syntax.specs.Tree.{there}
use Rattle.c_syntax.specs.View.{expr_of}
use Rattle.c_tree.specs.Tree as typed
use Rattle.c_tree.specs.Tree.{return_value}
use Rattle.c_tree.specs.View.{ctype_of}
use Rattle.std.proofs.Common.{ℕ, refl}

abbrev converted : (at : ℕ) → typed.CType → TypedExpression → Checked (StatementTree typed.Stmt)
converted at t g = gives (gives (as_if_assigned at t g) (λ a. return_value (tree_of a))) bare

pub returns-in_err-given-clause-judged : goal.returns-in_err-given-clause-judged
returns-in_err-given-clause-judged c =
    let given = value (env_of c.args.env.now) (before_of c.args.before.now) (expr_of c.args.e.now) in
    let t = ctype_of c.args.returns.now in
    fails_on statement_tree_of c.from_residual.result c.in_err-given.field-0.0 (gives (returned (env_of c.args.env.now) (before_of c.args.before.now) c.args.at t (there (expr_of c.args.e.now))) bare) given (converted c.args.at t) c.from_residual.ensures
    (given_twice given (as_if_assigned c.args.at t) (λ a. return_value (tree_of a)) bare) c.in_err-given.ensures.judged

pub returns : goal.returns
returns c = record {
  judged = let given = value (env_of c.args.env.now) (before_of c.args.before.now) (expr_of c.args.e.now) in
      let t = ctype_of c.args.returns.now in
      let g = typed_expression_of c.in_ok-given.given in
      on_ended statement_tree_of c.returned_value.result (gives (returned (env_of c.args.env.now) (before_of c.args.before.now) c.args.at t (there (expr_of c.args.e.now))) bare) given given (converted c.args.at t) g (converted c.args.at t g)
      (given_twice given (as_if_assigned c.args.at t) (λ a. return_value (tree_of a)) bare) refl c.in_ok-given.ensures.judged refl c.returned_value.ensures;
  counted = on_ok c.returned_value.result _ c.in_ok-given.ensures.counted;
  kept = on_ok c.returned_value.result _ c.in_ok-given.ensures.kept;
}
