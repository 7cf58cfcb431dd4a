use Rattle.std.proofs.Common.{arith}
use Rattle.c_parser.specs.Lists.{ends}
use Rattle.c_parser.proofs.ListLemmas.{goes_first, goes_more, goes_end, rest_of}
use Rattle.c_parser.proofs.ItemLemmas.{item_before}
use Rattle.c_syntax_printing.specs.Units.{AUnit}
use Rattle.c_syntax_printing.specs.Items.{AnItem}
use Rattle.c_parser_phrases.specs.Refusing.{bound_of}
use Rattle.c_parser.proofs.StmtStops.{raised}
use Rattle.c_parser.proofs.ItemStops.{some_left, first_item_leads, next_item_fails}
use Rattle.c_syntax_printing.specs.Opens.{DeepItem, DeepUnit}
use Rattle.c_parser.specs.Nesting.{OpensAs}
use Rattle.c_parser.proofs.ItemGoesOn.{item_then}
use Rattle.c_parser.proofs.Passing.{passed}
use Rattle.c_parser.proofs.items.items.Goals as goal
use Rattle.c_syntax_printing.proofs.UnitOpens.{first_item_opens}
use Rattle.c_syntax_printing.proofs.ItemFails.{item_fails}

pub next-init : goal.next-init
next-init c = record { goes = goes_first _ _ _ c.in_ok-push.ensures.items c.new-items.ensures.items (item_before _ c.in_ok-first.ensures.reads); leads = λ x r f. first_item_leads x c.in_ok-first.ensures.reads f; shorter = c.in_ok-first.ensures.shorter; opens = λ at n q d. item_then c.in_ok-first.ensures.reads d }

pub next-preserved : goal.next-preserved
next-preserved c = record {
  goes = goes_more _ _ _ c.in_ok-push-2.ensures.items c.next.invariant.goes (λ more k s. rest_of (item_before _ c.in_ok-next.ensures.reads more k s));
  leads = λ x r f. c.next.invariant.leads x r (next_item_fails x (omega (arith, c.in_ok-next.ensures.shorter)) (first_item_leads x c.in_ok-next.ensures.reads f));
  shorter = omega (arith, c.in_ok-next.ensures.shorter, c.next.invariant.shorter);
  opens = λ at n q d. c.next.invariant.opens at n q (item_then c.in_ok-next.ensures.reads d);
}

pub returns-clause-reads : goal.returns-clause-reads
returns-clause-reads c = goes_end _ c.next.invariant.goes ends

pub returns-in_err-first-clause-stops : goal.returns-in_err-first-clause-stops
returns-in_err-first-clause-stops c = raised AUnit AnItem (bound_of c.args.room) _ c.from_residual.result c.in_err-first.field-0.0 c.from_residual.ensures (λ x r f. item_fails f) c.in_err-first.ensures.stops

pub returns-in_err-next-clause-stops : goal.returns-in_err-next-clause-stops
returns-in_err-next-clause-stops c = raised AUnit AnItem (bound_of c.args.room) _ c.from_residual-in_err-next.result c.in_err-next.field-0.0 c.from_residual-in_err-next.ensures (λ x r f. c.next.invariant.leads x r (next_item_fails x (some_left _ c.next-test.ensures) (item_fails f))) c.in_err-next.ensures.stops

pub returns-in_err-first-clause-nests : goal.returns-in_err-first-clause-nests
returns-in_err-first-clause-nests c =
    passed AUnit AnItem (OpensAs DeepUnit) (OpensAs DeepItem) c.args.room c.args.room c.from_residual.result c.in_err-first.field-0.0 c.from_residual.ensures
    (λ r f. item_fails f)
    (λ at q d. first_item_opens d) c.in_err-first.ensures.nests

pub returns-in_err-next-clause-nests : goal.returns-in_err-next-clause-nests
returns-in_err-next-clause-nests c =
    passed AUnit AnItem (OpensAs DeepUnit) (OpensAs DeepItem) c.args.room c.args.room c.from_residual-in_err-next.result c.in_err-next.field-0.0 c.from_residual-in_err-next.ensures
    (λ r f. c.next.invariant.leads (bound_of c.args.room) r (next_item_fails (bound_of c.args.room) (some_left _ c.next-test.ensures) (item_fails f)))
    (λ at q d. c.next.invariant.opens at _ q (first_item_opens d)) c.in_err-next.ensures.nests
