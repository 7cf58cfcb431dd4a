use Rattle.std.proofs.Common.{refl}
use Rattle.c_rules.specs.Checked.{beside, fine}
use Rattle.c_rules.specs.Counts.{after_maybe}
use Rattle.c_rules.specs.Statements.{step_of, test_of}
use Rattle.c_check_scopes.specs.View.{before_of, env_of}
use Rattle.c_check_statements.specs.Two.{two_of}
use Rattle.c_check_expressions.proofs.Exits.{fails_first}
use Rattle.c_syntax.specs.View.{expr_behind}
use Rattle.c_check_statements.proofs.heads.tests_of.Goals as goal

pub returns-in_err-first-clause-judged : goal.returns-in_err-first-clause-judged
returns-in_err-first-clause-judged c =
    fails_first two_of c.from_residual.result c.in_err-first.field-0.0 (beside (test_of (env_of c.args.env.now) (before_of c.args.before.now) c.args.at (expr_behind c.args.test.now)) (step_of (env_of c.args.env.now) (after_maybe (before_of c.args.before.now) (expr_behind c.args.test.now)) (expr_behind c.args.step.now))) (test_of (env_of c.args.env.now) (before_of c.args.before.now) c.args.at (expr_behind c.args.test.now)) (step_of (env_of c.args.env.now) (after_maybe (before_of c.args.before.now) (expr_behind c.args.test.now)) (expr_behind c.args.step.now)) (λ x y. fine (record { first = x; second = y })) c.from_residual.ensures refl c.in_err-first.ensures.judged
