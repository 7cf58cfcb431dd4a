use Rattle.std.proofs.Common.{ap, length, arith, ◌∙◌, sym, refl}
use Rattle.c_parser.proofs.StmtLemmas.{default_before, case_before}
use Rattle.c_syntax_printing.specs.Phrases.{any}
use Rattle.c_parser.proofs.StmtStops.{raised, ends_at}
use Rattle.c_parser.proofs.LoopStops.{default_unclosed, default_leads, value_fails, case_unclosed, case_leads, no_label_from}
use Rattle.c_syntax_printing.specs.Phrases.{AnExpr, SomeLabels}
use Rattle.c_syntax.specs.Grammar.{conditional_level}
use Rattle.c_parser_phrases.specs.Refusing.{bound_of}
use Rattle.c_syntax_printing.specs.Opens.{DeepExpr}
use Rattle.c_syntax_printing.specs.Deep.{DeepLabels}
use Rattle.c_parser.specs.Nesting.{OpensAs}
use Rattle.c_parser.proofs.StmtGoesOn.{value_goes_on, default_then, case_then}
use Rattle.c_parser.proofs.Passing.{passed_deep}
use Rattle.c_parser.proofs.labels.label.Goals as goal

pub returns-then-take_keyword-clause-reads : goal.returns-then-take_keyword-clause-reads
returns-then-take_keyword-clause-reads c =
    let w = c.if-take_keyword.ensures in let k = c.if-not-take.ensures in
    record { before = default_before _ c.place-at.ensures refl w.2 w.1 k.2 k.1 }

pub returns-then-take_keyword-clause-shorter : goal.returns-then-take_keyword-clause-shorter
returns-then-take_keyword-clause-shorter c = omega (arith, ap length c.if-take_keyword.ensures.2, ap length c.if-not-take.ensures.2)

pub returns-clause-reads : goal.returns-clause-reads
returns-clause-reads c =
    let n = c.if-take_keyword.ensures in let w = c.if-not-take_keyword.ensures in let k = c.if-not-take-2.ensures in
    record { before = case_before _ _ c.place-at.ensures refl (sym n.1 ∙ w.2) w.1 c.in_ok-value.ensures.parses k.2 k.1 }

pub returns-clause-shorter : goal.returns-clause-shorter
returns-clause-shorter c = omega (arith, ap length c.if-take_keyword.ensures.1, ap length c.if-not-take_keyword.ensures.2, c.in_ok-value.ensures.shorter, ap length c.if-not-take-2.ensures.2)

pub returns-then-not-take-clause-stops : goal.returns-then-not-take-clause-stops
returns-then-not-take-clause-stops c = let w = c.if-take_keyword.ensures in let k = c.if-not-take.ensures in ends_at k.1 (default_unclosed any w.2 w.1 k.0)

pub returns-then-take_keyword-clause-leads : goal.returns-then-take_keyword-clause-leads
returns-then-take_keyword-clause-leads c x r f = let w = c.if-take_keyword.ensures in let k = c.if-not-take.ensures in default_leads x w.2 w.1 k.2 f

pub returns-then-not-take_keyword-clause-stops : goal.returns-then-not-take_keyword-clause-stops
returns-then-not-take_keyword-clause-stops c = let n = c.if-take_keyword.ensures in let m = c.if-not-take_keyword.ensures in ends_at (m.1 ∙ n.1) (no_label_from any n.1 m.0 n.0)

pub returns-in_err-value-clause-stops : goal.returns-in_err-value-clause-stops
returns-in_err-value-clause-stops c =
    let n = c.if-take_keyword.ensures in let w = c.if-not-take_keyword.ensures in
    raised SomeLabels (λ x. AnExpr x conditional_level) (bound_of c.args.room) _ c.from_residual.result c.in_err-value.field-0.0 c.from_residual.ensures (λ x r f. value_fails x (sym n.1 ∙ w.2) w.1 f) c.in_err-value.ensures.stops

pub returns-then-not-take-2-clause-stops : goal.returns-then-not-take-2-clause-stops
returns-then-not-take-2-clause-stops c =
    let n = c.if-take_keyword.ensures in let w = c.if-not-take_keyword.ensures in let k = c.if-not-take-2.ensures in
    ends_at k.1 (case_unclosed any (sym n.1 ∙ w.2) w.1 c.in_ok-value.ensures.parses k.0)

pub returns-clause-leads : goal.returns-clause-leads
returns-clause-leads c x r f =
    let n = c.if-take_keyword.ensures in let w = c.if-not-take_keyword.ensures in let k = c.if-not-take-2.ensures in
    case_leads x (sym n.1 ∙ w.2) w.1 c.in_ok-value.ensures.parses k.2 f

pub returns-in_err-value-clause-nests : goal.returns-in_err-value-clause-nests
returns-in_err-value-clause-nests c =
    let n = c.if-take_keyword.ensures in let w = c.if-not-take_keyword.ensures in
    passed_deep SomeLabels (λ x. AnExpr x conditional_level) (OpensAs DeepLabels) (λ at p n. DeepExpr at p n conditional_level) c.args.room c.from_residual.result c.in_err-value.field-0.0 c.from_residual.ensures
    (λ r f. value_fails (bound_of c.args.room) (sym n.1 ∙ w.2) w.1 f)
    (λ at q d. value_goes_on (sym n.1 ∙ w.2) w.1 d) c.in_err-value.ensures.nests

pub returns-then-take_keyword-clause-opens : goal.returns-then-take_keyword-clause-opens
returns-then-take_keyword-clause-opens c at n q d = let w = c.if-take_keyword.ensures in let k = c.if-not-take.ensures in default_then w.2 w.1 k.2 k.1 d

pub returns-clause-opens : goal.returns-clause-opens
returns-clause-opens c at m q d =
    let n = c.if-take_keyword.ensures in let w = c.if-not-take_keyword.ensures in let k = c.if-not-take-2.ensures in
    case_then (sym n.1 ∙ w.2) w.1 c.in_ok-value.ensures.parses k.2 k.1 d
