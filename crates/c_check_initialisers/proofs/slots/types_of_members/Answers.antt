use Rattle.std.proofs.Common.{rules}
use Rattle.c_check_initialisers.proofs.SlotLemmas.{members_step}
use Rattle.c_check_initialisers.proofs.slots.types_of_members.Goals as goal

pub loop-member-preserved : goal.loop-member-preserved
loop-member-preserved c =
    members_step c.args.members.now c.loop-member.member-index c.member-item.result c.loop-member.types.items c.in_ok-ctype.ctype c.push.new.self.items c.loop-member-test.true c.member-item.is c.loop-member.invariant c.in_ok-ctype.ensures (search rules)
