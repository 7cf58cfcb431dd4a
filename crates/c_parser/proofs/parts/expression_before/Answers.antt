use Rattle.std.proofs.Common.{ap, length, arith, sym}
use Rattle.c_parser.proofs.StmtLemmas.{boxed_maybe, maybe_none, maybe_some, maybe_from}
use Rattle.c_syntax_printing.specs.Phrases.{any}
use Rattle.c_syntax_printing.proofs.Combine.{fails_at}
use Rattle.c_parser.proofs.StmtStops.{raised, ends_at, before_fails, before_unclosed}
use Rattle.c_syntax_printing.specs.Phrases.{AnExpr}
use Rattle.c_parser.specs.Refusing.{ABefore}
use Rattle.c_syntax.specs.Grammar.{expression_level}
use Rattle.c_parser_phrases.specs.Refusing.{bound_of}
use Rattle.c_syntax_printing.specs.Opens.{DeepExpr}
use Rattle.c_parser.specs.Nesting.{OpensExpr}
use Rattle.c_parser.proofs.StmtGoesOn.{opens_at}
use Rattle.c_parser.proofs.Passing.{passed_deep}
use Rattle.c_parser.proofs.parts.expression_before.Goals as goal

pub returns-then-take-clause-reads : goal.returns-then-take-clause-reads
returns-then-take-clause-reads c = let o = c.if-take.ensures in maybe_none o.2 o.1

pub returns-then-take-clause-shorter : goal.returns-then-take-clause-shorter
returns-then-take-clause-shorter c = omega (arith, ap length c.if-take.ensures.2)

pub returns-clause-reads : goal.returns-clause-reads
returns-clause-reads c = let k = c.if-not-take.ensures in maybe_from c.if-take.ensures.1 (boxed_maybe c.in_ok-boxed.ensures.ok (maybe_some c.in_ok-inside.ensures.parses k.2 k.1))

pub returns-clause-shorter : goal.returns-clause-shorter
returns-clause-shorter c = omega (arith, ap length c.if-take.ensures.1, c.in_ok-inside.ensures.shorter, ap length c.if-not-take.ensures.2)

pub returns-in_err-inside-clause-stops : goal.returns-in_err-inside-clause-stops
returns-in_err-inside-clause-stops c =
    let n = c.if-take.ensures in
    raised (ABefore c.args.end) (λ x. AnExpr x expression_level) (bound_of c.args.room) _ c.from_residual.result c.in_err-inside.field-0.0 c.from_residual.ensures (λ x r f. before_fails x c.args.end n.0 (fails_at (sym n.1) f)) c.in_err-inside.ensures.stops

pub returns-then-not-take-clause-stops : goal.returns-then-not-take-clause-stops
returns-then-not-take-clause-stops c =
    let n = c.if-take.ensures in let k = c.if-not-take.ensures in
    ends_at k.1 (fails_at (sym n.1) (before_unclosed any c.args.end c.in_ok-inside.ensures.parses k.0))

pub returns-in_err-inside-clause-nests : goal.returns-in_err-inside-clause-nests
returns-in_err-inside-clause-nests c =
    let n = c.if-take.ensures in
    passed_deep (ABefore c.args.end) (λ x. AnExpr x expression_level) (OpensExpr expression_level) (λ at p n. DeepExpr at p n expression_level) c.args.room c.from_residual.result c.in_err-inside.field-0.0 c.from_residual.ensures
    (λ r f. before_fails (bound_of c.args.room) c.args.end n.0 (fails_at (sym n.1) f))
    (λ at q d. opens_at (sym n.1) d) c.in_err-inside.ensures.nests
