use Rattle.c_check_declarations.specs.TypedExpressionView.{typed_expression_of}
use Rattle.c_check_expressions.proofs.Exits.{fails_on}
use Rattle.c_check_scopes.specs.View.{before_of, env_of}
use Rattle.c_check_statements.proofs.NodeLemmas.{gives_as}
use Rattle.c_check_statements.proofs.heads.value_tree.Goals as goal
use Rattle.c_rules.specs.Checked.{fine, gives}
use Rattle.c_rules.specs.Expressions.{value}
use Rattle.c_rules.specs.TypedExpression.{tree_of}
use Rattle.c_syntax.specs.View.{expr_of}
use Rattle.c_tree.specs.View.{expr_of as tree_seen}
use Rattle.std.proofs.Common.{refl}

pub returns-in_err-given-clause-judged : goal.returns-in_err-given-clause-judged
returns-in_err-given-clause-judged c =
    let given = value (env_of c.args.env.now) (before_of c.args.before.now) (expr_of c.args.e.now) in
    fails_on tree_seen c.from_residual.result c.in_err-given.field-0.0 (gives given tree_of) given (λ g. fine (tree_of g)) c.from_residual.ensures refl c.in_err-given.ensures.judged

pub returns-clause-judged : goal.returns-clause-judged
returns-clause-judged c =
    gives_as (value (env_of c.args.env.now) (before_of c.args.before.now) (expr_of c.args.e.now)) tree_of (typed_expression_of c.in_ok-given.given) _ c.in_ok-given.ensures.judged c.in_ok-into_tree.ensures
