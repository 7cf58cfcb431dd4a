use Rattle.std.proofs.Common.{ap, length, arith}
use Rattle.c_parser.proofs.StmtLemmas.{boxed_condition, condition_of}
use Rattle.c_syntax_printing.specs.Phrases.{any}
use Rattle.c_parser.proofs.StmtStops.{raised, ends_at, no_parenthesis, condition_fails, condition_unclosed}
use Rattle.c_syntax_printing.specs.Phrases.{AnExpr}
use Rattle.c_parser.specs.Refusing.{ACondition}
use Rattle.c_syntax.specs.Grammar.{expression_level}
use Rattle.c_parser_phrases.specs.Refusing.{bound_of}
use Rattle.c_syntax_printing.specs.Opens.{DeepExpr}
use Rattle.c_parser.specs.Nesting.{OpensInside}
use Rattle.c_parser.proofs.StmtGoesOn.{test_goes_on}
use Rattle.c_parser.proofs.Passing.{passed_deep}
use Rattle.c_parser.proofs.parts.condition.Goals as goal

pub returns-clause-reads : goal.returns-clause-reads
returns-clause-reads c = let o = c.if-not-take.ensures in let k = c.if-not-take-2.ensures in boxed_condition c.in_ok-boxed.ensures.ok (condition_of o.2 o.1 c.in_ok-test.ensures.parses k.2 k.1)

pub returns-clause-shorter : goal.returns-clause-shorter
returns-clause-shorter c = omega (arith, ap length c.if-not-take.ensures.2, c.in_ok-test.ensures.shorter, ap length c.if-not-take-2.ensures.2)

pub returns-then-not-take-clause-stops : goal.returns-then-not-take-clause-stops
returns-then-not-take-clause-stops c = let n = c.if-not-take.ensures in ends_at n.1 (no_parenthesis any _ n.0)

pub returns-in_err-test-clause-stops : goal.returns-in_err-test-clause-stops
returns-in_err-test-clause-stops c = let o = c.if-not-take.ensures in raised ACondition (λ x. AnExpr x expression_level) (bound_of c.args.room) _ c.from_residual.result c.in_err-test.field-0.0 c.from_residual.ensures (λ x r f. condition_fails x o.2 f) c.in_err-test.ensures.stops

pub returns-then-not-take-2-clause-stops : goal.returns-then-not-take-2-clause-stops
returns-then-not-take-2-clause-stops c =
    let o = c.if-not-take.ensures in let n = c.if-not-take-2.ensures in
    ends_at n.1 (condition_unclosed any o.2 c.in_ok-test.ensures.parses n.0)

pub returns-in_err-test-clause-nests : goal.returns-in_err-test-clause-nests
returns-in_err-test-clause-nests c =
    let o = c.if-not-take.ensures in
    passed_deep ACondition (λ x. AnExpr x expression_level) OpensInside (λ at p n. DeepExpr at p n expression_level) c.args.room c.from_residual.result c.in_err-test.field-0.0 c.from_residual.ensures
    (λ r f. condition_fails (bound_of c.args.room) o.2 f)
    (λ at q d. test_goes_on o.2 o.1 d) c.in_err-test.ensures.nests
