use Rattle.std.proofs.Common.{arith, refl}
use Rattle.c_syntax.specs.View.{spec_of}
use Rattle.c_syntax.specs.UnitView.{declarators_of, members_of}
use Rattle.c_syntax.specs.Print.{members_kinds}
use Rattle.c_syntax.specs.WritesUnit.{member_kinds}
use Rattle.c_syntax.proofs.Writing.{all_written, one_written}
use Rattle.c_syntax_printing.proofs.printing.items.write_members.Goals as goal

pub loop-member-preserved : goal.loop-member-preserved
loop-member-preserved c =
    one_written (λ xs. members_kinds (members_of xs)) (λ xs. members_kinds (members_of xs)) (λ x. member_kinds (spec_of x.spec) (declarators_of x.declarators.items)) (λ x xs k. refl)
    c.args.members.now c.loop-member.member-index c.member-item.result c.loop-member-test.true c.member-item.is c.loop-member.invariant c.in_ok-write_member.ensures

pub returns : goal.returns
returns c =
    all_written (λ xs. members_kinds (members_of xs)) (λ k. refl) c.args.members.now c.loop-member.member-index (omega arith) c.loop-member.invariant
