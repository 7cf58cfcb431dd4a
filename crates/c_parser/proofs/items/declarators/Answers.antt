use Rattle.std.proofs.Common.{ap, length, arith, ◌∙◌, sym}
use Rattle.c_parser.proofs.ListLemmas.{goes_first, goes_more, goes_from, rest_after}
use Rattle.c_parser.proofs.ItemLemmas.{declarator_before, declarators_done}
use Rattle.c_syntax_printing.specs.Phrases.{any, ADeclarator}
use Rattle.c_syntax_printing.specs.Items.{DeclaratorsClosed}
use Rattle.c_parser_phrases.specs.Refusing.{bound_of}
use Rattle.c_parser.proofs.StmtStops.{raised, ends_at}
use Rattle.c_parser.proofs.ItemStops.{one_declarator_leads, another_declarator_fails, no_declarators_end}
use Rattle.c_syntax.specs.Grammar.{HasName}
use Rattle.c_syntax_printing.specs.Opens.{DeepDeclarator}
use Rattle.c_syntax_printing.specs.Deep.{DeepDeclarators}
use Rattle.c_parser.specs.Nesting.{OpensAs}
use Rattle.c_parser.proofs.ItemGoesOn.{declarator_then}
use Rattle.c_parser.proofs.Passing.{passed_deep}
use Rattle.c_parser.proofs.items.declarators.Goals as goal
use Rattle.c_syntax_printing.proofs.MemberOpens.{first_declarator_opens}
use Rattle.c_syntax_printing.proofs.ItemFails.{first_declarator_fails}

pub next-init : goal.next-init
next-init c = record { goes = goes_first _ _ _ c.in_ok-push.ensures.items c.new-declarators.ensures.items (declarator_before _ c.in_ok-first.ensures.parses); leads = λ x r f. one_declarator_leads x c.in_ok-first.ensures.parses f; shorter = c.in_ok-first.ensures.shorter; opens = λ at n t m q e h d. declarator_then c.in_ok-first.ensures.parses e h d }

pub next-preserved : goal.next-preserved
next-preserved c =
    let left = c.next-test.ensures in let comma = c.if-not-take.ensures in
    record {
      goes = goes_more _ _ _ c.in_ok-push-2.ensures.items (goes_from _ (sym left.1) c.next.invariant.goes) (λ more k s. rest_after comma.2 comma.1 (declarator_before _ c.in_ok-next.ensures.parses more k s));
      leads = λ x r f. c.next.invariant.leads x r (another_declarator_fails x left.1 comma.2 comma.1 (one_declarator_leads x c.in_ok-next.ensures.parses f));
      shorter = omega (arith, ap length left.1, ap length comma.2, c.in_ok-next.ensures.shorter, c.next.invariant.shorter);
      opens = λ at n t m q e h d. c.next.invariant.opens at n _ _ q (sym left.1 ∙ comma.2) comma.1 (declarator_then c.in_ok-next.ensures.parses e h d);
    }

pub next-smaller : goal.next-smaller
next-smaller c = omega (arith, ap length c.next-test.ensures.1, ap length c.if-not-take.ensures.2, c.in_ok-next.ensures.shorter)

pub returns-clause-reads : goal.returns-clause-reads
returns-clause-reads c = let k = c.next-test.ensures in declarators_done _ c.next.invariant.goes k.2 k.1

pub returns-clause-shorter : goal.returns-clause-shorter
returns-clause-shorter c = omega (arith, ap length c.next-test.ensures.2, c.next.invariant.shorter)

pub returns-in_err-first-clause-stops : goal.returns-in_err-first-clause-stops
returns-in_err-first-clause-stops c = raised DeclaratorsClosed ADeclarator (bound_of c.args.room) _ c.from_residual.result c.in_err-first.field-0.0 c.from_residual.ensures (λ x r f. first_declarator_fails f) c.in_err-first.ensures.stops

pub returns-then-not-take-clause-stops : goal.returns-then-not-take-clause-stops
returns-then-not-take-clause-stops c = let left = c.next-test.ensures in let n = c.if-not-take.ensures in ends_at (n.1 ∙ left.1) (c.next.invariant.leads any _ (no_declarators_end any left.1 left.0 n.0))

pub returns-in_err-next-clause-stops : goal.returns-in_err-next-clause-stops
returns-in_err-next-clause-stops c = let left = c.next-test.ensures in let comma = c.if-not-take.ensures in raised DeclaratorsClosed ADeclarator (bound_of c.args.room) _ c.from_residual-in_err-next.result c.in_err-next.field-0.0 c.from_residual-in_err-next.ensures (λ x r f. c.next.invariant.leads x r (another_declarator_fails x left.1 comma.2 comma.1 (first_declarator_fails f))) c.in_err-next.ensures.stops

pub returns-in_err-first-clause-nests : goal.returns-in_err-first-clause-nests
returns-in_err-first-clause-nests c =
    passed_deep DeclaratorsClosed ADeclarator (OpensAs DeepDeclarators) (DeepDeclarator HasName) c.args.room c.from_residual.result c.in_err-first.field-0.0 c.from_residual.ensures
    (λ r f. first_declarator_fails f)
    (λ at q d. first_declarator_opens d) c.in_err-first.ensures.nests

pub returns-in_err-next-clause-nests : goal.returns-in_err-next-clause-nests
returns-in_err-next-clause-nests c =
    let left = c.next-test.ensures in let comma = c.if-not-take.ensures in
    passed_deep DeclaratorsClosed ADeclarator (OpensAs DeepDeclarators) (DeepDeclarator HasName) c.args.room c.from_residual-in_err-next.result c.in_err-next.field-0.0 c.from_residual-in_err-next.ensures
    (λ r f. c.next.invariant.leads (bound_of c.args.room) r (another_declarator_fails (bound_of c.args.room) left.1 comma.2 comma.1 (first_declarator_fails f)))
    (λ at q d. c.next.invariant.opens at _ _ _ q (sym left.1 ∙ comma.2) comma.1 (first_declarator_opens d)) c.in_err-next.ensures.nests
