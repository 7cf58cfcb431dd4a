use Rattle.std.proofs.Common.{rules}
use Rattle.c_check_units.proofs.StructLemmas.{types_more, types_all}
use Rattle.c_tree.specs.View.{ctypes_of}
use Rattle.c_check_units.proofs.structs.types_of_members.Goals as goal

pub loop-member-preserved : goal.loop-member-preserved
loop-member-preserved c =
    types_more c.args.members.now c.loop-member.member-index c.member-item.result c.loop-member.types.items c.push.new.self.items c.in_ok-copied.copied c.loop-member-test.true c.member-item.is c.loop-member.invariant c.in_ok-copied.ensures (search rules)

pub returns : goal.returns
returns c = types_all c.args.members.now c.loop-member.member-index (ctypes_of c.loop-member.types.items) c.loop-member-test.false c.loop-member.invariant
