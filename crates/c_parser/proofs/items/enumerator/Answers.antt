use Rattle.std.proofs.Common.{arith}
use Rattle.c_parser.proofs.ItemLemmas.{enumerator_before}
use Rattle.c_syntax_printing.specs.Items.{InEnum, ValueRest}
use Rattle.c_parser_phrases.specs.Refusing.{bound_of}
use Rattle.c_parser.proofs.StmtStops.{raised, raised_flat}
use Rattle.c_parser.proofs.ItemStops.{enumerator_unnamed, enumerator_rest_fails}
use Rattle.c_syntax_printing.specs.Deep.{DeepEnumerators}
use Rattle.c_parser.specs.Nesting.{OpensAs, OpensValue}
use Rattle.c_parser.proofs.ItemGoesOn.{value_goes_on, enumerator_then}
use Rattle.c_parser.proofs.Passing.{passed, passed_flat}
use Rattle.c_parser.proofs.items.enumerator.Goals as goal

pub returns-clause-reads : goal.returns-clause-reads
returns-clause-reads c = record { before = enumerator_before _ c.in_ok-name.ensures.parses c.in_ok-value.ensures.reads }

pub returns-clause-shorter : goal.returns-clause-shorter
returns-clause-shorter c = omega (arith, c.in_ok-name.ensures.shorter, c.in_ok-value.ensures.reads.no_longer)

pub returns-in_err-name-clause-stops : goal.returns-in_err-name-clause-stops
returns-in_err-name-clause-stops c = raised_flat InEnum (bound_of c.args.room) c.from_residual.result c.in_err-name.field-0.0 c.from_residual.ensures (λ x r f. enumerator_unnamed x f) c.in_err-name.ensures.stops

pub returns-in_err-value-clause-stops : goal.returns-in_err-value-clause-stops
returns-in_err-value-clause-stops c = raised InEnum ValueRest (bound_of c.args.room) _ c.from_residual-in_err-value.result c.in_err-value.field-0.0 c.from_residual-in_err-value.ensures (λ x r f. enumerator_rest_fails x c.in_ok-name.ensures.parses f) c.in_err-value.ensures.stops

pub returns-clause-leads : goal.returns-clause-leads
returns-clause-leads c x r f = enumerator_rest_fails x c.in_ok-name.ensures.parses (c.in_ok-value.ensures.leads x r f)

pub returns-in_err-name-clause-nests : goal.returns-in_err-name-clause-nests
returns-in_err-name-clause-nests c =
    passed_flat InEnum (OpensAs DeepEnumerators) c.args.room c.args.cursor.now.rest.now c.from_residual.result c.in_err-name.field-0.0 c.from_residual.ensures c.in_err-name.ensures.stops

pub returns-in_err-value-clause-nests : goal.returns-in_err-value-clause-nests
returns-in_err-value-clause-nests c =
    passed InEnum ValueRest (OpensAs DeepEnumerators) OpensValue c.args.room c.args.room c.from_residual-in_err-value.result c.in_err-value.field-0.0 c.from_residual-in_err-value.ensures
    (λ r f. enumerator_rest_fails (bound_of c.args.room) c.in_ok-name.ensures.parses f)
    (λ at q d. value_goes_on c.in_ok-name.ensures.parses d.stood d.assigns d.deep) c.in_err-value.ensures.nests

pub returns-clause-opens : goal.returns-clause-opens
returns-clause-opens c at n t m q e h d = enumerator_then c.in_ok-name.ensures.parses c.in_ok-value.ensures.reads e h d
