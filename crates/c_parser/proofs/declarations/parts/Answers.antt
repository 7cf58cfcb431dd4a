use Rattle.std.proofs.Common.{ap, length, arith, ◌∙◌, sym}
use Rattle.c_parser.proofs.ListLemmas.{goes_first, goes_more, goes_from, rest_after}
use Rattle.c_parser.proofs.DeclLemmas.{part_before, parts_done}
use Rattle.c_syntax_printing.specs.Phrases.{any}
use Rattle.c_parser.proofs.StmtStops.{raised, ends_at}
use Rattle.c_parser.proofs.DeclStops.{no_end_from, next_declarator_fails, next_tail_fails}
use Rattle.c_syntax_printing.specs.Phrases.{ADeclarator}
use Rattle.c_syntax_printing.specs.Declarations.{PartsTail}
use Rattle.c_parser_phrases.specs.Refusing.{bound_of}
use Rattle.c_syntax.specs.View.{declarator_of}
use Rattle.c_syntax.specs.Grammar.{HasName}
use Rattle.c_syntax_printing.specs.Opens.{DeepDeclarator}
use Rattle.c_syntax_printing.proofs.PartOpens.{part_declarator_opens}
use Rattle.c_parser.specs.Nesting.{OpensParts, OpensInitialiser}
use Rattle.c_parser.proofs.ItemGoesOn.{initialiser_goes_on, part_then}
use Rattle.c_parser.proofs.Passing.{passed, passed_deep}
use Rattle.c_parser.proofs.declarations.parts.Goals as goal

pub next-init : goal.next-init
next-init c = record {
  goes = λ start e. goes_first _ _ _ c.in_ok-push.ensures.items c.new-parts.ensures.items (part_before _ e c.in_ok-init.ensures.reads);
  leads = c.in_ok-init.ensures.leads;
  no_longer = c.in_ok-init.ensures.reads.no_longer;
  opens = λ start w at n t m q e h d. part_then w c.in_ok-init.ensures.reads e h d;
}

pub next-preserved : goal.next-preserved
next-preserved c =
    let left = c.next-test.ensures in let comma = c.if-not-take.ensures in
    record {
      goes = λ start e.
          goes_more _ _ _ c.in_ok-push-2.ensures.items (goes_from _ (sym left.1) (c.next.invariant.goes start e))
          (λ more k s. rest_after comma.2 comma.1 (part_before _ c.in_ok-declarator.ensures.parses c.in_ok-init-2.ensures.reads more k s));
      leads = λ x r f. c.next.invariant.leads x r (next_tail_fails x (sym left.1 ∙ comma.2) comma.1 c.in_ok-declarator.ensures.parses (c.in_ok-init-2.ensures.leads x r f));
      no_longer = omega (arith, ap length left.1, ap length comma.2, c.in_ok-declarator.ensures.shorter, c.in_ok-init-2.ensures.reads.no_longer, c.next.invariant.no_longer);
      opens = λ start w at n t m q e h d. c.next.invariant.opens start w at n _ _ q (sym left.1 ∙ comma.2) comma.1 (part_then c.in_ok-declarator.ensures.parses c.in_ok-init-2.ensures.reads e h d);
    }

pub next-smaller : goal.next-smaller
next-smaller c =
    let left = c.next-test.ensures in let comma = c.if-not-take.ensures in
    omega (arith, ap length left.1, ap length comma.2, c.in_ok-declarator.ensures.shorter, c.in_ok-init-2.ensures.reads.no_longer)

pub returns-clause-reads : goal.returns-clause-reads
returns-clause-reads c start e = let k = c.next-test.ensures in parts_done _ (c.next.invariant.goes start e) k.2 k.1

pub returns-clause-shorter : goal.returns-clause-shorter
returns-clause-shorter c = omega (arith, ap length c.next-test.ensures.2, c.next.invariant.no_longer)

pub returns-in_err-init-clause-stops : goal.returns-in_err-init-clause-stops
returns-in_err-init-clause-stops c = raised PartsTail PartsTail (bound_of c.args.room) _ c.from_residual.result c.in_err-init.field-0.0 c.from_residual.ensures (λ x r f. f) c.in_err-init.ensures.stops

pub returns-then-not-take-clause-stops : goal.returns-then-not-take-clause-stops
returns-then-not-take-clause-stops c =
    let left = c.next-test.ensures in let n = c.if-not-take.ensures in
    ends_at (n.1 ∙ left.1) (c.next.invariant.leads any _ (no_end_from any left.1 left.0 n.0))

pub returns-in_err-declarator-clause-stops : goal.returns-in_err-declarator-clause-stops
returns-in_err-declarator-clause-stops c =
    let left = c.next-test.ensures in let comma = c.if-not-take.ensures in
    raised PartsTail ADeclarator (bound_of c.args.room) _ c.from_residual-in_err-declarator.result c.in_err-declarator.field-0.0 c.from_residual-in_err-declarator.ensures
    (λ x r f. c.next.invariant.leads x r (next_declarator_fails x (sym left.1 ∙ comma.2) comma.1 f)) c.in_err-declarator.ensures.stops

pub returns-in_err-init-2-clause-stops : goal.returns-in_err-init-2-clause-stops
returns-in_err-init-2-clause-stops c =
    let left = c.next-test.ensures in let comma = c.if-not-take.ensures in
    raised PartsTail PartsTail (bound_of c.args.room) _ c.from_residual-in_err-init-2.result c.in_err-init-2.field-0.0 c.from_residual-in_err-init-2.ensures
    (λ x r f. c.next.invariant.leads x r (next_tail_fails x (sym left.1 ∙ comma.2) comma.1 c.in_ok-declarator.ensures.parses f)) c.in_err-init-2.ensures.stops

pub returns-in_err-init-clause-nests : goal.returns-in_err-init-clause-nests
returns-in_err-init-clause-nests c =
    passed PartsTail PartsTail (OpensParts c.args.room (declarator_of c.args.first)) OpensInitialiser c.args.room c.args.room c.from_residual.result c.in_err-init.field-0.0 c.from_residual.ensures
    (λ r f. f)
    (λ at q d. λ start w. initialiser_goes_on w d.stood d.assigns d.deep) c.in_err-init.ensures.nests

pub returns-in_err-declarator-clause-nests : goal.returns-in_err-declarator-clause-nests
returns-in_err-declarator-clause-nests c =
    let left = c.next-test.ensures in let comma = c.if-not-take.ensures in
    passed_deep PartsTail ADeclarator (OpensParts c.args.room (declarator_of c.args.first)) (DeepDeclarator HasName) c.args.room c.from_residual-in_err-declarator.result c.in_err-declarator.field-0.0 c.from_residual-in_err-declarator.ensures
    (λ r f. c.next.invariant.leads (bound_of c.args.room) r (next_declarator_fails (bound_of c.args.room) (sym left.1 ∙ comma.2) comma.1 f))
    (λ at q d. λ start w. c.next.invariant.opens start w at _ _ _ q (sym left.1 ∙ comma.2) comma.1 (part_declarator_opens d)) c.in_err-declarator.ensures.nests

pub returns-in_err-init-2-clause-nests : goal.returns-in_err-init-2-clause-nests
returns-in_err-init-2-clause-nests c =
    let left = c.next-test.ensures in let comma = c.if-not-take.ensures in
    passed PartsTail PartsTail (OpensParts c.args.room (declarator_of c.args.first)) OpensInitialiser c.args.room c.args.room c.from_residual-in_err-init-2.result c.in_err-init-2.field-0.0 c.from_residual-in_err-init-2.ensures
    (λ r f. c.next.invariant.leads (bound_of c.args.room) r (next_tail_fails (bound_of c.args.room) (sym left.1 ∙ comma.2) comma.1 c.in_ok-declarator.ensures.parses f))
    (λ at q d. λ start w. c.next.invariant.opens start w at _ _ _ q (sym left.1 ∙ comma.2) comma.1 (initialiser_goes_on c.in_ok-declarator.ensures.parses d.stood d.assigns d.deep)) c.in_err-init-2.ensures.nests
