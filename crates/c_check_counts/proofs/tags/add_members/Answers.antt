use Rattle.c_syntax.specs.UnitView.{members_of}
use Rattle.c_rules.specs.Tags.{tags_of_members}
use Rattle.c_check_counts.specs.HeldTags.{tags_of_member}
use Rattle.c_syntax.specs.SeenNames.{seen}
use Rattle.c_check_counts.proofs.Lists.{more_flat, all_flat}
use Rattle.c_check_counts.proofs.TagLists.{members_flat}
use Rattle.c_check_counts.proofs.tags.add_members.Goals as goal

pub returns : goal.returns
returns c =
    all_flat tags_of_member c.args.ms.now c.loop-m.m-index (seen c.args.into.now.items) (seen c.loop-m.into.items) (tags_of_members (members_of c.args.ms.now)) c.loop-m-test.false (members_flat c.args.ms.now) c.loop-m.invariant

pub loop-m-preserved : goal.loop-m-preserved
loop-m-preserved c =
    more_flat tags_of_member c.args.ms.now c.loop-m.m-index c.m-item.result (seen c.args.into.now.items) (seen c.loop-m.into.items) (seen c.add_member.new.into.items) c.loop-m-test.true c.m-item.is c.loop-m.invariant c.in_ok-add_member.ensures
