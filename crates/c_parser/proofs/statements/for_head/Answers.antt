use Rattle.c_syntax_printing.specs.Phrases.{any}
use Rattle.c_parser.proofs.StmtStops.{raised, ends_at, no_head, first_fails, test_fails, step_fails}
use Rattle.c_parser.proofs.StmtLemmas.{head_is}
use Rattle.c_syntax_printing.specs.Phrases.{AFirst}
use Rattle.c_parser.specs.Refusing.{ABefore, AHead}
use Rattle.c_lexer.specs.declared.punctuator.TheConstants.{SEMICOLON, RIGHT_PARENTHESIS}
use Rattle.c_parser_phrases.specs.Refusing.{bound_of}
use Rattle.c_lexer.specs.declared.keyword.TheConstants.{FOR}
use Rattle.c_syntax.specs.Grammar.{expression_level}
use Rattle.c_parser.specs.Nesting.{OpensAfter, OpensInHead, OpensExpr}
use Rattle.c_parser.proofs.StmtGoesOn.{head_first, head_test, head_step}
use Rattle.c_parser.proofs.Passing.{passed}
use Rattle.c_parser.proofs.statements.for_head.Goals as goal

pub returns-clause-reads : goal.returns-clause-reads
returns-clause-reads c =
    let o = c.if-not-take.ensures in
    head_is c.in_ok-boxed.ensures.ok
    (record {
      left = _;
      inside = _;
      after_first = _;
      after_test = _;
      stood = o.2;
      opens = o.1;
      first = c.in_ok-first.ensures.reads;
      test = c.in_ok-test.ensures.reads;
      step = c.in_ok-step.ensures.reads;
    })

pub returns-then-not-take-clause-stops : goal.returns-then-not-take-clause-stops
returns-then-not-take-clause-stops c = let n = c.if-not-take.ensures in ends_at n.1 (no_head any _ n.0)

pub returns-in_err-first-clause-stops : goal.returns-in_err-first-clause-stops
returns-in_err-first-clause-stops c = raised AHead AFirst (bound_of c.args.room) _ c.from_residual.result c.in_err-first.field-0.0 c.from_residual.ensures (λ x r f. first_fails x c.if-not-take.ensures.2 f) c.in_err-first.ensures.stops

pub returns-in_err-test-clause-stops : goal.returns-in_err-test-clause-stops
returns-in_err-test-clause-stops c = raised AHead (ABefore SEMICOLON) (bound_of c.args.room) _ c.from_residual-in_err-test.result c.in_err-test.field-0.0 c.from_residual-in_err-test.ensures (λ x r f. test_fails x c.if-not-take.ensures.2 c.in_ok-first.ensures.reads f) c.in_err-test.ensures.stops

pub returns-in_err-step-clause-stops : goal.returns-in_err-step-clause-stops
returns-in_err-step-clause-stops c =
    raised AHead (ABefore RIGHT_PARENTHESIS) (bound_of c.args.room) _ c.from_residual-in_err-step.result c.in_err-step.field-0.0 c.from_residual-in_err-step.ensures (λ x r f. step_fails x c.if-not-take.ensures.2 c.in_ok-first.ensures.reads c.in_ok-test.ensures.reads f) c.in_err-step.ensures.stops

pub returns-in_err-first-clause-nests : goal.returns-in_err-first-clause-nests
returns-in_err-first-clause-nests c =
    passed AHead AFirst (OpensAfter FOR) OpensInHead c.args.room c.args.room c.from_residual.result c.in_err-first.field-0.0 c.from_residual.ensures
    (λ r f. first_fails (bound_of c.args.room) c.if-not-take.ensures.2 f)
    (λ at q d. head_first c.if-not-take.ensures.2 c.if-not-take.ensures.1 d) c.in_err-first.ensures.nests

pub returns-in_err-test-clause-nests : goal.returns-in_err-test-clause-nests
returns-in_err-test-clause-nests c =
    passed AHead (ABefore SEMICOLON) (OpensAfter FOR) (OpensExpr expression_level) c.args.room c.args.room c.from_residual-in_err-test.result c.in_err-test.field-0.0 c.from_residual-in_err-test.ensures
    (λ r f. test_fails (bound_of c.args.room) c.if-not-take.ensures.2 c.in_ok-first.ensures.reads f)
    (λ at q d. head_test c.if-not-take.ensures.2 c.if-not-take.ensures.1 c.in_ok-first.ensures.reads d) c.in_err-test.ensures.nests

pub returns-in_err-step-clause-nests : goal.returns-in_err-step-clause-nests
returns-in_err-step-clause-nests c =
    passed AHead (ABefore RIGHT_PARENTHESIS) (OpensAfter FOR) (OpensExpr expression_level) c.args.room c.args.room c.from_residual-in_err-step.result c.in_err-step.field-0.0 c.from_residual-in_err-step.ensures
    (λ r f. step_fails (bound_of c.args.room) c.if-not-take.ensures.2 c.in_ok-first.ensures.reads c.in_ok-test.ensures.reads f)
    (λ at q d. head_step c.if-not-take.ensures.2 c.if-not-take.ensures.1 c.in_ok-first.ensures.reads c.in_ok-test.ensures.reads d) c.in_err-step.ensures.nests
