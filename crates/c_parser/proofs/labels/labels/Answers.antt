use Rattle.std.proofs.Common.{arith}
use Rattle.c_parser.specs.Lists.{ends}
use Rattle.c_parser.proofs.ListLemmas.{goes_first, goes_more, goes_end, rest_of}
use Rattle.c_parser.proofs.StmtStops.{raised}
use Rattle.c_parser.proofs.LoopStops.{label_next}
use Rattle.c_syntax_printing.specs.Phrases.{SomeLabels}
use Rattle.c_parser_phrases.specs.Refusing.{bound_of}
use Rattle.c_syntax_printing.specs.Deep.{DeepLabels}
use Rattle.c_parser.specs.Nesting.{OpensAs}
use Rattle.c_parser.proofs.Passing.{passed}
use Rattle.c_parser.proofs.labels.labels.Goals as goal
use Rattle.c_syntax_printing.proofs.PartFails.{more_labels_fail}

pub next-init : goal.next-init
next-init c = record {
  goes = goes_first _ _ _ c.in_ok-push.ensures.items c.new-labels.ensures.items c.in_ok-first.ensures.reads.before;
  leads = c.in_ok-first.ensures.leads;
  shorter = c.in_ok-first.ensures.shorter;
  opens = λ at n q d. c.in_ok-first.ensures.opens at n q d;
}

pub next-preserved : goal.next-preserved
next-preserved c = record {
  goes = goes_more _ _ _ c.in_ok-push-2.ensures.items c.next.invariant.goes (λ more k s. rest_of (c.in_ok-next.ensures.reads.before more k s));
  leads = λ x r f. c.next.invariant.leads x r (more_labels_fail (label_next _ (c.next-test.ensures.0 (cc))) (c.in_ok-next.ensures.leads x r f));
  shorter = omega (arith, c.in_ok-next.ensures.shorter, c.next.invariant.shorter);
  opens = λ at n q d. c.next.invariant.opens at n q (c.in_ok-next.ensures.opens at n q d);
}

pub returns-clause-reads : goal.returns-clause-reads
returns-clause-reads c = goes_end _ c.next.invariant.goes ends

pub returns-in_err-first-clause-stops : goal.returns-in_err-first-clause-stops
returns-in_err-first-clause-stops c = raised SomeLabels SomeLabels (bound_of c.args.room) _ c.from_residual.result c.in_err-first.field-0.0 c.from_residual.ensures (λ x r f. f) c.in_err-first.ensures.stops

pub returns-in_err-next-clause-stops : goal.returns-in_err-next-clause-stops
returns-in_err-next-clause-stops c =
    raised SomeLabels SomeLabels (bound_of c.args.room) _ c.from_residual-in_err-next.result c.in_err-next.field-0.0 c.from_residual-in_err-next.ensures
    (λ x r f. c.next.invariant.leads x r (more_labels_fail (label_next _ (c.next-test.ensures.0 (cc))) f)) c.in_err-next.ensures.stops

pub returns-in_err-first-clause-nests : goal.returns-in_err-first-clause-nests
returns-in_err-first-clause-nests c =
    passed SomeLabels SomeLabels (OpensAs DeepLabels) (OpensAs DeepLabels) c.args.room c.args.room c.from_residual.result c.in_err-first.field-0.0 c.from_residual.ensures
    (λ r f. f)
    (λ at q d. d) c.in_err-first.ensures.nests

pub returns-in_err-next-clause-nests : goal.returns-in_err-next-clause-nests
returns-in_err-next-clause-nests c =
    passed SomeLabels SomeLabels (OpensAs DeepLabels) (OpensAs DeepLabels) c.args.room c.args.room c.from_residual-in_err-next.result c.in_err-next.field-0.0 c.from_residual-in_err-next.ensures
    (λ r f. c.next.invariant.leads (bound_of c.args.room) r (more_labels_fail (label_next _ (c.next-test.ensures.0 (cc))) f))
    (λ at q d. c.next.invariant.opens at _ q d) c.in_err-next.ensures.nests
