use Rattle.std.proofs.Common.{refl, sym}
use Rattle.c_check_declarations.specs.TypedExpressionView.{typed_expression_of}
use Rattle.c_rules.specs.Checked.{on}
use Rattle.c_rules.specs.Counts.{place_of}
use Rattle.c_rules.specs.Declarators.{constant_value}
use Rattle.c_rules.specs.Expressions.{folded_value}
use Rattle.c_check_scopes.specs.View.{env_of}
use Rattle.c_check_expressions.proofs.Exits.{on_ended}
use Rattle.c_check_expressions.proofs.NodeLemmas.{place_is}
use Rattle.c_syntax.specs.View.{expr_of}
use Rattle.c_check_statements.proofs.labels.case_value.Goals as goal

pub returns-clause-judged : goal.returns-clause-judged
returns-clause-judged c =
    on_ended (λ v. v) c.constant_value.result (on (folded_value (env_of c.args.env.now) (expr_of c.args.e.now)) (constant_value (place_of (expr_of c.args.e.now)))) (folded_value (env_of c.args.env.now) (expr_of c.args.e.now)) (folded_value (env_of c.args.env.now) (expr_of c.args.e.now)) (constant_value (place_of (expr_of c.args.e.now))) (typed_expression_of c.in_ok-given.given) (constant_value c.args.e.now.at (typed_expression_of c.in_ok-given.given)) refl refl c.in_ok-given.ensures.judged (λ i. constant_value (sym (place_is c.args.e.now.at c.args.e.now.kind) i) (typed_expression_of c.in_ok-given.given)) c.constant_value.ensures
