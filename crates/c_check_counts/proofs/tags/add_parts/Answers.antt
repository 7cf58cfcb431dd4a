use Rattle.c_syntax.specs.UnitView.{parts_of}
use Rattle.c_rules.specs.Tags.{tags_of_parts}
use Rattle.c_check_counts.specs.HeldTags.{tags_of_part}
use Rattle.c_syntax.specs.SeenNames.{seen}
use Rattle.c_check_counts.proofs.Lists.{more_flat, all_flat}
use Rattle.c_check_counts.proofs.TagLists.{parts_flat}
use Rattle.c_check_counts.proofs.tags.add_parts.Goals as goal

pub returns : goal.returns
returns c =
    all_flat tags_of_part c.args.ps.now c.loop-p.p-index (seen c.args.into.now.items) (seen c.loop-p.into.items) (tags_of_parts (parts_of c.args.ps.now)) c.loop-p-test.false (parts_flat c.args.ps.now) c.loop-p.invariant

pub loop-p-preserved : goal.loop-p-preserved
loop-p-preserved c =
    more_flat tags_of_part c.args.ps.now c.loop-p.p-index c.p-item.result (seen c.args.into.now.items) (seen c.loop-p.into.items) (seen c.add_part.new.into.items) c.loop-p-test.true c.p-item.is c.loop-p.invariant c.in_ok-add_part.ensures
