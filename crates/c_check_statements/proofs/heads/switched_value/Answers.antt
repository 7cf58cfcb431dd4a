use Rattle.c_check_declarations.specs.TypedExpressionView.{typed_expression_of}
use Rattle.c_check_expressions.proofs.Exits.{fails_on, on_ended, on_ok}
use Rattle.c_check_scopes.specs.View.{before_of, env_of}
use Rattle.c_check_statements.proofs.heads.switched_value.Goals as goal
use Rattle.c_rules.specs.Conversions.{kind_of}
use Rattle.c_rules.specs.Expressions.{value}
use Rattle.c_rules.specs.Statements.{switched, switched_kind}
use Rattle.c_syntax.specs.View.{expr_of}
use Rattle.std.proofs.Common.{refl}

pub returns-in_err-given-clause-judged : goal.returns-in_err-given-clause-judged
returns-in_err-given-clause-judged c =
    let given = value (env_of c.args.env.now) (before_of c.args.before.now) (expr_of c.args.e.now) in
    fails_on typed_expression_of c.from_residual.result c.in_err-given.field-0.0 (switched c.args.at given) given (λ g. switched_kind c.args.at g (kind_of g.ctype)) c.from_residual.ensures refl c.in_err-given.ensures.judged

pub returns : goal.returns
returns c = record {
  judged = let given = value (env_of c.args.env.now) (before_of c.args.before.now) (expr_of c.args.e.now) in
      let g = typed_expression_of c.in_ok-given.given in
      on_ended typed_expression_of c.switched.result (switched c.args.at given) given given (λ x. switched_kind c.args.at x (kind_of x.ctype)) g (switched_kind c.args.at g (kind_of g.ctype)) refl refl c.in_ok-given.ensures.judged refl c.switched.ensures;
  counted = on_ok c.switched.result _ c.in_ok-given.ensures.counted;
  kept = on_ok c.switched.result _ c.in_ok-given.ensures.kept;
}
