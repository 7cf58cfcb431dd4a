use Rattle.std.proofs.Common.{ap, length, arith, ◌∙◌, sym, ◌∷◌}
use Rattle.c_parser.proofs.ListLemmas.{goes_first, goes_more, goes_from, rest_after}
use Rattle.c_parser.proofs.ItemLemmas.{enumerators_done, enumerators_closed}
use Rattle.c_syntax_printing.specs.Phrases.{any}
use Rattle.c_syntax_printing.specs.Items.{InEnum}
use Rattle.c_parser_phrases.specs.Refusing.{bound_of}
use Rattle.c_parser.proofs.StmtStops.{raised, ends_at}
use Rattle.c_parser.proofs.ItemStops.{enum_closed, enum_closed_after_comma, no_enum_end, another_enumerator_fails}
use Rattle.c_syntax_printing.specs.Deep.{DeepEnumerators}
use Rattle.c_parser.specs.Nesting.{OpensAs}
use Rattle.c_parser.proofs.StmtGoesOn.{opens_at}
use Rattle.c_parser.proofs.Passing.{passed}
use Rattle.c_parser.proofs.items.enumerators.Goals as goal

pub next-init : goal.next-init
next-init c = record { goes = goes_first _ _ _ c.in_ok-push.ensures.items c.new-list.ensures.items c.in_ok-first.ensures.reads.before; leads = c.in_ok-first.ensures.leads; shorter = c.in_ok-first.ensures.shorter; opens = λ at n t m q e h d. c.in_ok-first.ensures.opens at n t m q e h d }

pub next-preserved : goal.next-preserved
next-preserved c =
    let left = c.next-test.ensures in let comma = c.if-not-take.ensures in let no = c.if-take.ensures in
    record {
      goes = goes_more _ _ _ c.in_ok-push-2.ensures.items (goes_from _ (sym left.1) c.next.invariant.goes) (λ more k s. rest_after (comma.2 ∙ ap (λ z. comma.0 ∷ z) (sym no.1)) comma.1 (c.in_ok-next.ensures.reads.before more k s));
      leads = λ x r f. c.next.invariant.leads x r (another_enumerator_fails x left.1 comma.2 comma.1 no.1 no.0 (c.in_ok-next.ensures.leads x r f));
      shorter = omega (arith, ap length left.1, ap length comma.2, ap length no.1, c.in_ok-next.ensures.shorter, c.next.invariant.shorter);
      opens = λ at n t m q e h d. c.next.invariant.opens at n _ _ q (sym left.1 ∙ comma.2) comma.1 (opens_at (sym no.1) (c.in_ok-next.ensures.opens at n t m q e h d));
    }

pub next-smaller : goal.next-smaller
next-smaller c = omega (arith, ap length c.next-test.ensures.1, ap length c.if-not-take.ensures.2, ap length c.if-take.ensures.1, c.in_ok-next.ensures.shorter)

pub returns-then-take-clause-reads : goal.returns-then-take-clause-reads
returns-then-take-clause-reads c =
    let left = c.next-test.ensures in let comma = c.if-not-take.ensures in let k = c.if-take.ensures in
    enumerators_closed _ (goes_from _ (sym left.1) c.next.invariant.goes) comma.2 comma.1 k.2 k.1

pub returns-then-take-clause-shorter : goal.returns-then-take-clause-shorter
returns-then-take-clause-shorter c = omega (arith, ap length c.next-test.ensures.1, ap length c.if-not-take.ensures.2, ap length c.if-take.ensures.2, c.next.invariant.shorter)

pub returns-clause-reads : goal.returns-clause-reads
returns-clause-reads c = let k = c.next-test.ensures in enumerators_done _ c.next.invariant.goes k.2 k.1

pub returns-clause-shorter : goal.returns-clause-shorter
returns-clause-shorter c = omega (arith, ap length c.next-test.ensures.2, c.next.invariant.shorter)

pub returns-in_err-first-clause-stops : goal.returns-in_err-first-clause-stops
returns-in_err-first-clause-stops c = raised InEnum InEnum (bound_of c.args.room) _ c.from_residual.result c.in_err-first.field-0.0 c.from_residual.ensures (λ x r f. f) c.in_err-first.ensures.stops

pub returns-then-not-take-clause-stops : goal.returns-then-not-take-clause-stops
returns-then-not-take-clause-stops c = let left = c.next-test.ensures in let n = c.if-not-take.ensures in ends_at (n.1 ∙ left.1) (c.next.invariant.leads any _ (no_enum_end any left.1 left.0 n.0))

pub returns-in_err-next-clause-stops : goal.returns-in_err-next-clause-stops
returns-in_err-next-clause-stops c = let left = c.next-test.ensures in let comma = c.if-not-take.ensures in let no = c.if-take.ensures in raised InEnum InEnum (bound_of c.args.room) _ c.from_residual-in_err-next.result c.in_err-next.field-0.0 c.from_residual-in_err-next.ensures (λ x r f. c.next.invariant.leads x r (another_enumerator_fails x left.1 comma.2 comma.1 no.1 no.0 f)) c.in_err-next.ensures.stops

pub returns-then-take-clause-leads : goal.returns-then-take-clause-leads
returns-then-take-clause-leads c x r f = let left = c.next-test.ensures in let comma = c.if-not-take.ensures in let k = c.if-take.ensures in c.next.invariant.leads x r (enum_closed_after_comma x left.1 comma.2 comma.1 k.2 k.1 f)

pub returns-clause-leads : goal.returns-clause-leads
returns-clause-leads c x r f = let k = c.next-test.ensures in c.next.invariant.leads x r (enum_closed x k.2 k.1 f)

pub returns-in_err-first-clause-nests : goal.returns-in_err-first-clause-nests
returns-in_err-first-clause-nests c =
    passed InEnum InEnum (OpensAs DeepEnumerators) (OpensAs DeepEnumerators) c.args.room c.args.room c.from_residual.result c.in_err-first.field-0.0 c.from_residual.ensures
    (λ r f. f)
    (λ at q d. d) c.in_err-first.ensures.nests

pub returns-in_err-next-clause-nests : goal.returns-in_err-next-clause-nests
returns-in_err-next-clause-nests c =
    let left = c.next-test.ensures in let comma = c.if-not-take.ensures in let no = c.if-take.ensures in
    passed InEnum InEnum (OpensAs DeepEnumerators) (OpensAs DeepEnumerators) c.args.room c.args.room c.from_residual-in_err-next.result c.in_err-next.field-0.0 c.from_residual-in_err-next.ensures
    (λ r f. c.next.invariant.leads (bound_of c.args.room) r (another_enumerator_fails (bound_of c.args.room) left.1 comma.2 comma.1 no.1 no.0 f))
    (λ at q d. c.next.invariant.opens at _ _ _ q (sym left.1 ∙ comma.2) comma.1 (opens_at (sym no.1) d)) c.in_err-next.ensures.nests
