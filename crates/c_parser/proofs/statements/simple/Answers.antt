use Rattle.std.proofs.Common.{ap, ◌∙◌, sym, length, arith}
use Rattle.c_syntax.specs.Tokens.{place}
use Rattle.c_parser.proofs.StmtLemmas.{is_empty, is_break, is_continue, is_return, is_evaluation, when_read, stmt_made, stmt_from}
use Rattle.c_syntax_printing.specs.Phrases.{any}
use Rattle.c_syntax_printing.proofs.Combine.{fails_at}
use Rattle.c_parser.proofs.StmtStops.{raised_in, made_stops, ends_at}
use Rattle.c_parser.proofs.LoopStops.{return_fails, break_fails, continue_fails, no_other, other_from, evaluation_fails, evaluation_unclosed}
use Rattle.c_syntax_printing.specs.Phrases.{AStmt, AnExpr}
use Rattle.c_parser.specs.Refusing.{ABefore}
use Rattle.c_syntax.specs.Grammar.{expression_level}
use Rattle.c_lexer.specs.declared.punctuator.TheConstants.{SEMICOLON}
use Rattle.c_parser_phrases.specs.Refusing.{bound_of}
use Rattle.c_syntax_printing.specs.Opens.{DeepStmt, DeepExpr}
use Rattle.c_parser.specs.Nesting.{OpensAs, OpensExpr}
use Rattle.c_parser.proofs.StmtGoesOn.{return_goes_on, evaluation_goes_on}
use Rattle.c_parser.proofs.Passing.{passed_deep_in, passed_in, made_passes}
use Rattle.c_parser.proofs.statements.simple.Goals as goal

pub returns-then-take-clause-reads : goal.returns-then-take-clause-reads
returns-then-take-clause-reads c = let o = c.if-take.ensures in stmt_made c.stmt_node.result c.stmt_node.ensures (is_empty c.requires.room c.place-at.ensures o.2 o.1)

pub returns-then-take_keyword-clause-reads : goal.returns-then-take_keyword-clause-reads
returns-then-take_keyword-clause-reads c =
    let w = c.if-take_keyword.ensures in let o = c.if-not-take.ensures in
    stmt_made c.stmt_node-then-take_keyword.result c.stmt_node-then-take_keyword.ensures (is_break c.requires.room c.place-at.ensures (sym c.if-take.ensures.1 ∙ w.2) w.1 o.2 o.1)

pub returns-then-take_keyword-2-clause-reads : goal.returns-then-take_keyword-2-clause-reads
returns-then-take_keyword-2-clause-reads c =
    let w = c.if-take_keyword-2.ensures in let o = c.if-not-take-2.ensures in
    stmt_made c.stmt_node-then-take_keyword-2.result c.stmt_node-then-take_keyword-2.ensures (is_continue c.requires.room c.place-at.ensures (sym c.if-take.ensures.1 ∙ sym c.if-take_keyword.ensures.1 ∙ w.2) w.1 o.2 o.1)

pub returns-then-take_keyword-3-clause-reads : goal.returns-then-take_keyword-3-clause-reads
returns-then-take_keyword-3-clause-reads c =
    let w = c.if-take_keyword-3.ensures in
    stmt_made c.stmt_node-then-take_keyword-3.result c.stmt_node-then-take_keyword-3.ensures (is_return (record { some = c.requires.room; nodes = c.in_node-inside.ensures.nodes; pairs = c.in_node-inside.ensures.pairs }) c.place-at.ensures (sym c.if-take.ensures.1 ∙ sym c.if-take_keyword.ensures.1 ∙ sym c.if-take_keyword-2.ensures.1 ∙ w.2) w.1 c.in_ok-value.ensures.reads)

pub returns-clause-reads : goal.returns-clause-reads
returns-clause-reads c =
    let q = c.if-take_keyword-3.ensures.1 ∙ c.if-take_keyword-2.ensures.1 ∙ c.if-take_keyword.ensures.1 ∙ c.if-take.ensures.1 in
    let o = c.if-not-take-3.ensures in
    stmt_made c.evaluation_node.result c.evaluation_node.ensures (stmt_from q (is_evaluation (record { some = c.requires.room; nodes = c.in_node-inside.ensures.nodes; pairs = c.in_node-inside.ensures.pairs }) (c.place-at.ensures ∙ sym (ap place q)) c.in_ok-whole.ensures.parses o.2 o.1))

pub returns-then-not-take-clause-stops : goal.returns-then-not-take-clause-stops
returns-then-not-take-clause-stops c =
    let w = c.if-take_keyword.ensures in let k = c.if-not-take.ensures in
    ends_at k.1 (break_fails any (sym c.if-take.ensures.1 ∙ w.2) w.1 k.0)

pub returns-then-not-take-2-clause-stops : goal.returns-then-not-take-2-clause-stops
returns-then-not-take-2-clause-stops c =
    let w = c.if-take_keyword-2.ensures in let k = c.if-not-take-2.ensures in
    ends_at k.1 (continue_fails any (sym c.if-take.ensures.1 ∙ sym c.if-take_keyword.ensures.1 ∙ w.2) w.1 k.0)

pub returns-in_err-value-clause-stops : goal.returns-in_err-value-clause-stops
returns-in_err-value-clause-stops c =
    let w = c.if-take_keyword-3.ensures in
    raised_in AStmt (ABefore SEMICOLON) c.args.room _ c.from_residual.result c.in_err-value.field-0.0 c.from_residual.ensures (record { some = c.requires.room; nodes = c.in_node-inside.ensures.nodes; pairs = c.in_node-inside.ensures.pairs })
    (λ x r f. return_fails x (sym c.if-take.ensures.1 ∙ sym c.if-take_keyword.ensures.1 ∙ sym c.if-take_keyword-2.ensures.1 ∙ w.2) w.1 f) c.in_err-value.ensures.stops

pub returns-in_err-whole-clause-stops : goal.returns-in_err-whole-clause-stops
returns-in_err-whole-clause-stops c =
    let q = c.if-take_keyword-3.ensures.1 ∙ c.if-take_keyword-2.ensures.1 ∙ c.if-take_keyword.ensures.1 ∙ c.if-take.ensures.1 in
    raised_in AStmt (λ x. AnExpr x expression_level) c.args.room _ c.from_residual-in_err-whole.result c.in_err-whole.field-0.0 c.from_residual-in_err-whole.ensures (record { some = c.requires.room; nodes = c.in_node-inside.ensures.nodes; pairs = c.in_node-inside.ensures.pairs })
    (λ x r f. evaluation_fails x (no_other c.requires.no_block c.requires.other c.if-take.ensures.0 c.if-take.ensures.1 c.if-take_keyword.ensures.0 c.if-take_keyword.ensures.1 c.if-take_keyword-2.ensures.0 c.if-take_keyword-2.ensures.1 c.if-take_keyword-3.ensures.0) (fails_at (sym q) f)) c.in_err-whole.ensures.stops

pub returns-then-not-take-3-clause-stops : goal.returns-then-not-take-3-clause-stops
returns-then-not-take-3-clause-stops c =
    let q = c.if-take_keyword-3.ensures.1 ∙ c.if-take_keyword-2.ensures.1 ∙ c.if-take_keyword.ensures.1 ∙ c.if-take.ensures.1 in let k = c.if-not-take-3.ensures in
    ends_at k.1
    (fails_at (sym q)
    (evaluation_unclosed any
    (other_from q (no_other c.requires.no_block c.requires.other c.if-take.ensures.0 c.if-take.ensures.1 c.if-take_keyword.ensures.0 c.if-take_keyword.ensures.1 c.if-take_keyword-2.ensures.0 c.if-take_keyword-2.ensures.1 c.if-take_keyword-3.ensures.0))
    c.in_ok-whole.ensures.parses k.0))

pub returns-in_err-value-clause-nests : goal.returns-in_err-value-clause-nests
returns-in_err-value-clause-nests c =
    let w = c.if-take_keyword-3.ensures in
    passed_in AStmt (ABefore SEMICOLON) (OpensAs DeepStmt) (OpensExpr expression_level) c.args.room c.from_residual.result c.in_err-value.field-0.0 c.from_residual.ensures (record { some = c.requires.room; nodes = c.in_node-inside.ensures.nodes; pairs = c.in_node-inside.ensures.pairs })
    (λ r f. return_fails (bound_of c.args.room) (sym c.if-take.ensures.1 ∙ sym c.if-take_keyword.ensures.1 ∙ sym c.if-take_keyword-2.ensures.1 ∙ w.2) w.1 f)
    (λ at q d. return_goes_on (sym c.if-take.ensures.1 ∙ sym c.if-take_keyword.ensures.1 ∙ sym c.if-take_keyword-2.ensures.1 ∙ w.2) w.1 d) c.in_err-value.ensures.nests

pub returns-in_err-whole-clause-nests : goal.returns-in_err-whole-clause-nests
returns-in_err-whole-clause-nests c =
    let q = c.if-take_keyword-3.ensures.1 ∙ c.if-take_keyword-2.ensures.1 ∙ c.if-take_keyword.ensures.1 ∙ c.if-take.ensures.1 in
    passed_deep_in AStmt (λ x. AnExpr x expression_level) (OpensAs DeepStmt) (λ at p n. DeepExpr at p n expression_level) c.args.room c.from_residual-in_err-whole.result c.in_err-whole.field-0.0 c.from_residual-in_err-whole.ensures (record { some = c.requires.room; nodes = c.in_node-inside.ensures.nodes; pairs = c.in_node-inside.ensures.pairs })
    (λ r f. evaluation_fails (bound_of c.args.room) (no_other c.requires.no_block c.requires.other c.if-take.ensures.0 c.if-take.ensures.1 c.if-take_keyword.ensures.0 c.if-take_keyword.ensures.1 c.if-take_keyword-2.ensures.0 c.if-take_keyword-2.ensures.1 c.if-take_keyword-3.ensures.0) (fails_at (sym q) f))
    (λ at r d. evaluation_goes_on q d) c.in_err-whole.ensures.nests

pub returns-then-take-clause-shorter : goal.returns-then-take-clause-shorter
returns-then-take-clause-shorter c = when_read c.stmt_node.result (omega (arith, ap length c.if-take.ensures.2))

pub returns-then-take-clause-stops : goal.returns-then-take-clause-stops
returns-then-take-clause-stops c = made_stops AStmt (bound_of c.args.room) _ _ c.stmt_node.result _ c.stmt_node.ensures

pub returns-then-take-clause-nests : goal.returns-then-take-clause-nests
returns-then-take-clause-nests c = made_passes AStmt (OpensAs DeepStmt) c.args.room _ c.stmt_node.result _ c.stmt_node.ensures

pub returns-then-take_keyword-clause-shorter : goal.returns-then-take_keyword-clause-shorter
returns-then-take_keyword-clause-shorter c = when_read c.stmt_node-then-take_keyword.result (omega (arith, ap length c.if-take.ensures.1, ap length c.if-take_keyword.ensures.2, ap length c.if-not-take.ensures.2))

pub returns-then-take_keyword-clause-stops : goal.returns-then-take_keyword-clause-stops
returns-then-take_keyword-clause-stops c = made_stops AStmt (bound_of c.args.room) _ _ c.stmt_node-then-take_keyword.result _ c.stmt_node-then-take_keyword.ensures

pub returns-then-take_keyword-clause-nests : goal.returns-then-take_keyword-clause-nests
returns-then-take_keyword-clause-nests c = made_passes AStmt (OpensAs DeepStmt) c.args.room _ c.stmt_node-then-take_keyword.result _ c.stmt_node-then-take_keyword.ensures

pub returns-then-take_keyword-2-clause-shorter : goal.returns-then-take_keyword-2-clause-shorter
returns-then-take_keyword-2-clause-shorter c = when_read c.stmt_node-then-take_keyword-2.result (omega (arith, ap length c.if-take.ensures.1, ap length c.if-take_keyword.ensures.1, ap length c.if-take_keyword-2.ensures.2, ap length c.if-not-take-2.ensures.2))

pub returns-then-take_keyword-2-clause-stops : goal.returns-then-take_keyword-2-clause-stops
returns-then-take_keyword-2-clause-stops c = made_stops AStmt (bound_of c.args.room) _ _ c.stmt_node-then-take_keyword-2.result _ c.stmt_node-then-take_keyword-2.ensures

pub returns-then-take_keyword-2-clause-nests : goal.returns-then-take_keyword-2-clause-nests
returns-then-take_keyword-2-clause-nests c = made_passes AStmt (OpensAs DeepStmt) c.args.room _ c.stmt_node-then-take_keyword-2.result _ c.stmt_node-then-take_keyword-2.ensures

pub returns-then-take_keyword-3-clause-shorter : goal.returns-then-take_keyword-3-clause-shorter
returns-then-take_keyword-3-clause-shorter c = when_read c.stmt_node-then-take_keyword-3.result (omega (arith, ap length c.if-take.ensures.1, ap length c.if-take_keyword.ensures.1, ap length c.if-take_keyword-2.ensures.1, ap length c.if-take_keyword-3.ensures.2, c.in_ok-value.ensures.shorter))

pub returns-then-take_keyword-3-clause-stops : goal.returns-then-take_keyword-3-clause-stops
returns-then-take_keyword-3-clause-stops c = made_stops AStmt (bound_of c.args.room) _ _ c.stmt_node-then-take_keyword-3.result _ c.stmt_node-then-take_keyword-3.ensures

pub returns-then-take_keyword-3-clause-nests : goal.returns-then-take_keyword-3-clause-nests
returns-then-take_keyword-3-clause-nests c = made_passes AStmt (OpensAs DeepStmt) c.args.room _ c.stmt_node-then-take_keyword-3.result _ c.stmt_node-then-take_keyword-3.ensures

pub returns-clause-shorter : goal.returns-clause-shorter
returns-clause-shorter c = when_read c.evaluation_node.result (omega (arith, ap length c.if-take.ensures.1, ap length c.if-take_keyword.ensures.1, ap length c.if-take_keyword-2.ensures.1, ap length c.if-take_keyword-3.ensures.1, c.in_ok-whole.ensures.shorter, ap length c.if-not-take-3.ensures.2))

pub returns-clause-stops : goal.returns-clause-stops
returns-clause-stops c = made_stops AStmt (bound_of c.args.room) _ _ c.evaluation_node.result _ c.evaluation_node.ensures

pub returns-clause-nests : goal.returns-clause-nests
returns-clause-nests c = made_passes AStmt (OpensAs DeepStmt) c.args.room _ c.evaluation_node.result _ c.evaluation_node.ensures
