use Rattle.std.proofs.Common.{ap, length, arith}
use Rattle.c_parser.proofs.StmtLemmas.{boxed_first, first_none, first_is, first_declares, first_from}
use Rattle.std.proofs.Common.{sym}
use Rattle.c_parser_phrases.proofs.Known.{not_there}
use Rattle.c_syntax_printing.specs.Phrases.{any}
use Rattle.c_syntax_printing.proofs.Combine.{fails_at}
use Rattle.c_parser.proofs.StmtStops.{raised, ends_at}
use Rattle.c_parser.proofs.LoopStops.{first_declaration_fails, first_expression_fails, first_unclosed}
use Rattle.c_syntax_printing.specs.Phrases.{AFirst, APlainDecl, AnExpr}
use Rattle.c_syntax.specs.Grammar.{expression_level}
use Rattle.c_parser_phrases.specs.Refusing.{bound_of}
use Rattle.c_syntax_printing.specs.Opens.{DeepDecl, DeepExpr}
use Rattle.c_parser.specs.Nesting.{OpensAs, OpensInHead}
use Rattle.c_parser.proofs.StmtGoesOn.{opens_at}
use Rattle.c_parser.proofs.Passing.{passed, passed_deep}
use Rattle.c_parser.proofs.statements.for_first.Goals as goal
use Rattle.c_syntax_printing.proofs.BodyOpens.{for_decl_opens, for_first_opens}

pub returns-then-take-clause-reads : goal.returns-then-take-clause-reads
returns-then-take-clause-reads c = let o = c.if-take.ensures in first_none o.2 o.1

pub returns-then-take-clause-shorter : goal.returns-then-take-clause-shorter
returns-then-take-clause-shorter c = omega (arith, ap length c.if-take.ensures.2)

pub returns-then-is_at_specifier-clause-reads : goal.returns-then-is_at_specifier-clause-reads
returns-then-is_at_specifier-clause-reads c = first_from c.if-take.ensures.1 (first_declares c.in_ok-declaration.ensures.reads)

pub returns-then-is_at_specifier-clause-shorter : goal.returns-then-is_at_specifier-clause-shorter
returns-then-is_at_specifier-clause-shorter c = omega (arith, ap length c.if-take.ensures.1, c.in_ok-declaration.ensures.shorter)

pub returns-clause-reads : goal.returns-clause-reads
returns-clause-reads c = let o = c.if-not-take.ensures in first_from c.if-take.ensures.1 (boxed_first c.in_ok-boxed.ensures.ok (first_is c.in_ok-first.ensures.parses o.2 o.1))

pub returns-clause-shorter : goal.returns-clause-shorter
returns-clause-shorter c = omega (arith, ap length c.if-take.ensures.1, c.in_ok-first.ensures.shorter, ap length c.if-not-take.ensures.2)

pub returns-in_err-declaration-clause-stops : goal.returns-in_err-declaration-clause-stops
returns-in_err-declaration-clause-stops c =
    let n = c.if-take.ensures in
    raised AFirst APlainDecl (bound_of c.args.room) _ c.from_residual.result c.in_err-declaration.field-0.0 c.from_residual.ensures
    (λ x r f. fails_at (sym n.1) (first_declaration_fails x (c.is_at_specifier.ensures.0 c.if-is_at_specifier.true) f)) c.in_err-declaration.ensures.stops

pub returns-in_err-first-clause-stops : goal.returns-in_err-first-clause-stops
returns-in_err-first-clause-stops c =
    let n = c.if-take.ensures in
    raised AFirst (λ x. AnExpr x expression_level) (bound_of c.args.room) _ c.from_residual-in_err-first.result c.in_err-first.field-0.0 c.from_residual-in_err-first.ensures
    (λ x r f. fails_at (sym n.1) (first_expression_fails x n.1 n.0 (not_there c.is_at_specifier.result c.if-is_at_specifier.false c.is_at_specifier.ensures) f)) c.in_err-first.ensures.stops

pub returns-then-not-take-clause-stops : goal.returns-then-not-take-clause-stops
returns-then-not-take-clause-stops c =
    let n = c.if-take.ensures in let k = c.if-not-take.ensures in
    ends_at k.1 (fails_at (sym n.1) (first_unclosed any n.1 n.0 (not_there c.is_at_specifier.result c.if-is_at_specifier.false c.is_at_specifier.ensures) c.in_ok-first.ensures.parses k.0))

pub returns-in_err-declaration-clause-nests : goal.returns-in_err-declaration-clause-nests
returns-in_err-declaration-clause-nests c =
    let n = c.if-take.ensures in
    passed AFirst APlainDecl OpensInHead (OpensAs DeepDecl) c.args.room c.args.room c.from_residual.result c.in_err-declaration.field-0.0 c.from_residual.ensures
    (λ r f. fails_at (sym n.1) (first_declaration_fails (bound_of c.args.room) (c.is_at_specifier.ensures.0 c.if-is_at_specifier.true) f))
    (λ at q d t o w h. for_decl_opens w h (opens_at (sym n.1) d)) c.in_err-declaration.ensures.nests

pub returns-in_err-first-clause-nests : goal.returns-in_err-first-clause-nests
returns-in_err-first-clause-nests c =
    let n = c.if-take.ensures in
    passed_deep AFirst (λ x. AnExpr x expression_level) OpensInHead (λ at p n. DeepExpr at p n expression_level) c.args.room c.from_residual-in_err-first.result c.in_err-first.field-0.0 c.from_residual-in_err-first.ensures
    (λ r f. fails_at (sym n.1) (first_expression_fails (bound_of c.args.room) n.1 n.0 (not_there c.is_at_specifier.result c.if-is_at_specifier.false c.is_at_specifier.ensures) f))
    (λ at q d t o w h. for_first_opens w h (opens_at (sym n.1) d)) c.in_err-first.ensures.nests

pub declaration-requires : goal.declaration-requires
declaration-requires c = c.is_at_specifier.ensures.0 c.if-is_at_specifier.true
