use Rattle.std.proofs.Common.{ap, length, arith, sym}
use Rattle.c_parser.proofs.ListLemmas.{goes_first, goes_more, goes_from, rest_of}
use Rattle.c_parser.proofs.ItemLemmas.{members_done}
use Rattle.c_syntax_printing.specs.Items.{InStruct, AMember}
use Rattle.c_parser_phrases.specs.Refusing.{bound_of}
use Rattle.c_parser.proofs.StmtStops.{raised}
use Rattle.c_parser.proofs.ItemStops.{next_member_fails, members_closed}
use Rattle.c_syntax_printing.specs.Deep.{DeepMembers}
use Rattle.c_parser.specs.Nesting.{OpensAs}
use Rattle.c_parser.proofs.StmtGoesOn.{opens_at}
use Rattle.c_parser.proofs.Passing.{passed}
use Rattle.c_parser.proofs.items.members.Goals as goal
use Rattle.c_syntax_printing.proofs.ItemFails.{member_fails, member_leads}

pub next-init : goal.next-init
next-init c = record { goes = goes_first _ _ _ c.in_ok-push.ensures.items c.new-members.ensures.items c.in_ok-first.ensures.reads.before; leads = λ x r f. member_leads c.in_ok-first.ensures.stands f; shorter = c.in_ok-first.ensures.shorter; opens = λ at n q d. c.in_ok-first.ensures.opens at n q d }

pub next-preserved : goal.next-preserved
next-preserved c =
    let left = c.next-test.ensures in
    record {
      goes = goes_more _ _ _ c.in_ok-push-2.ensures.items (goes_from _ (sym left.1) c.next.invariant.goes) (λ more k s. rest_of (c.in_ok-next.ensures.reads.before more k s));
      leads = λ x r f. c.next.invariant.leads x r (next_member_fails x left.1 left.0 (member_leads c.in_ok-next.ensures.stands f));
      shorter = omega (arith, ap length left.1, c.in_ok-next.ensures.shorter, c.next.invariant.shorter);
      opens = λ at n q d. c.next.invariant.opens at n q (opens_at (sym left.1) (c.in_ok-next.ensures.opens at n q d));
    }

pub next-smaller : goal.next-smaller
next-smaller c = omega (arith, ap length c.next-test.ensures.1, c.in_ok-next.ensures.shorter)

pub returns-clause-reads : goal.returns-clause-reads
returns-clause-reads c = let k = c.next-test.ensures in members_done _ c.next.invariant.goes k.2 k.1

pub returns-clause-shorter : goal.returns-clause-shorter
returns-clause-shorter c = omega (arith, ap length c.next-test.ensures.2, c.next.invariant.shorter)

pub returns-in_err-first-clause-stops : goal.returns-in_err-first-clause-stops
returns-in_err-first-clause-stops c = raised InStruct AMember (bound_of c.args.room) _ c.from_residual.result c.in_err-first.field-0.0 c.from_residual.ensures (λ x r f. member_fails f) c.in_err-first.ensures.stops

pub returns-in_err-next-clause-stops : goal.returns-in_err-next-clause-stops
returns-in_err-next-clause-stops c = let left = c.next-test.ensures in raised InStruct AMember (bound_of c.args.room) _ c.from_residual-in_err-next.result c.in_err-next.field-0.0 c.from_residual-in_err-next.ensures (λ x r f. c.next.invariant.leads x r (next_member_fails x left.1 left.0 (member_fails f))) c.in_err-next.ensures.stops

pub returns-clause-leads : goal.returns-clause-leads
returns-clause-leads c x r f = let k = c.next-test.ensures in c.next.invariant.leads x r (members_closed x k.2 k.1 f)

pub returns-in_err-first-clause-nests : goal.returns-in_err-first-clause-nests
returns-in_err-first-clause-nests c =
    passed InStruct AMember (OpensAs DeepMembers) (OpensAs DeepMembers) c.args.room c.args.room c.from_residual.result c.in_err-first.field-0.0 c.from_residual.ensures
    (λ r f. member_fails f)
    (λ at q d. d) c.in_err-first.ensures.nests

pub returns-in_err-next-clause-nests : goal.returns-in_err-next-clause-nests
returns-in_err-next-clause-nests c =
    let left = c.next-test.ensures in
    passed InStruct AMember (OpensAs DeepMembers) (OpensAs DeepMembers) c.args.room c.args.room c.from_residual-in_err-next.result c.in_err-next.field-0.0 c.from_residual-in_err-next.ensures
    (λ r f. c.next.invariant.leads (bound_of c.args.room) r (next_member_fails (bound_of c.args.room) left.1 left.0 (member_fails f)))
    (λ at q d. c.next.invariant.opens at _ q (opens_at (sym left.1) d)) c.in_err-next.ensures.nests
