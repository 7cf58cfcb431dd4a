use Rattle.c_syntax.specs.UnitView.{labels_of}
use Rattle.c_rules.specs.Tags.{tags_of_labels}
use Rattle.c_check_counts.specs.HeldTags.{tags_of_label}
use Rattle.c_syntax.specs.SeenNames.{seen}
use Rattle.c_check_counts.proofs.Lists.{more_flat, all_flat}
use Rattle.c_check_counts.proofs.TagLists.{labels_flat}
use Rattle.c_check_counts.proofs.tags.add_labels.Goals as goal

pub returns : goal.returns
returns c =
    all_flat tags_of_label c.args.labels.now c.loop-label.label-index (seen c.args.into.now.items) (seen c.loop-label.into.items) (tags_of_labels (labels_of c.args.labels.now)) c.loop-label-test.false (labels_flat c.args.labels.now) c.loop-label.invariant

pub loop-label-preserved : goal.loop-label-preserved
loop-label-preserved c =
    more_flat tags_of_label c.args.labels.now c.loop-label.label-index c.label-item.result (seen c.args.into.now.items) (seen c.loop-label.into.items) (seen c.add_label.new.into.items) c.loop-label-test.true c.label-item.is c.loop-label.invariant c.in_ok-add_label.ensures
