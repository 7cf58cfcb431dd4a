use Rattle.c_parser.proofs.ItemLemmas.{no_value_stands, value_stands}
use Rattle.c_syntax_printing.specs.Phrases.{AnExpr}
use Rattle.c_syntax_printing.specs.Items.{ValueRest}
use Rattle.c_parser_phrases.specs.Refusing.{bound_of}
use Rattle.c_syntax.specs.Grammar.{conditional_level}
use Rattle.c_parser.proofs.StmtStops.{raised}
use Rattle.c_parser.proofs.ItemStops.{value_fails, value_leads, no_value_leads}
use Rattle.c_syntax_printing.specs.Opens.{DeepExpr}
use Rattle.c_parser.specs.Nesting.{OpensValue}
use Rattle.c_parser.proofs.Passing.{passed_deep}
use Rattle.c_parser.proofs.items.enumerator_value.Goals as goal

pub returns-then-not-take-clause-reads : goal.returns-then-not-take-clause-reads
returns-then-not-take-clause-reads c = no_value_stands c.if-not-take.ensures.1

pub returns-clause-reads : goal.returns-clause-reads
returns-clause-reads c = let o = c.if-not-take.ensures in value_stands o.2 o.1 c.in_ok-value.ensures.parses

pub returns-then-not-take-clause-leads : goal.returns-then-not-take-clause-leads
returns-then-not-take-clause-leads c x r f = let n = c.if-not-take.ensures in no_value_leads x n.1 n.0 f

pub returns-in_err-value-clause-stops : goal.returns-in_err-value-clause-stops
returns-in_err-value-clause-stops c = let o = c.if-not-take.ensures in raised ValueRest (λ x. AnExpr x conditional_level) (bound_of c.args.room) _ c.from_residual.result c.in_err-value.field-0.0 c.from_residual.ensures (λ x r f. value_fails x o.2 o.1 f) c.in_err-value.ensures.stops

pub returns-clause-leads : goal.returns-clause-leads
returns-clause-leads c x r f = let o = c.if-not-take.ensures in value_leads x o.2 o.1 c.in_ok-value.ensures.parses f

pub returns-in_err-value-clause-nests : goal.returns-in_err-value-clause-nests
returns-in_err-value-clause-nests c =
    let o = c.if-not-take.ensures in
    passed_deep ValueRest (λ x. AnExpr x conditional_level) OpensValue (λ at p n. DeepExpr at p n conditional_level) c.args.room c.from_residual.result c.in_err-value.field-0.0 c.from_residual.ensures
    (λ r f. value_fails (bound_of c.args.room) o.2 o.1 f)
    (λ at q d. record { token = _; rest = _; stood = o.2; assigns = o.1; deep = d }) c.in_err-value.ensures.nests
