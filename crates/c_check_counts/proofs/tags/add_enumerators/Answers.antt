use Rattle.c_syntax.specs.UnitView.{enumerators_of}
use Rattle.c_rules.specs.Tags.{tags_of_enumerators}
use Rattle.c_check_counts.specs.HeldTags.{tags_of_enumerator}
use Rattle.c_syntax.specs.SeenNames.{seen}
use Rattle.c_check_counts.proofs.Lists.{more_flat, all_flat}
use Rattle.c_check_counts.proofs.TagLists.{enumerators_flat}
use Rattle.c_check_counts.proofs.tags.add_enumerators.Goals as goal

pub returns : goal.returns
returns c =
    all_flat tags_of_enumerator c.args.es.now c.loop-e.e-index (seen c.args.into.now.items) (seen c.loop-e.into.items) (tags_of_enumerators (enumerators_of c.args.es.now)) c.loop-e-test.false (enumerators_flat c.args.es.now) c.loop-e.invariant

pub loop-e-preserved : goal.loop-e-preserved
loop-e-preserved c =
    more_flat tags_of_enumerator c.args.es.now c.loop-e.e-index c.e-item.result (seen c.args.into.now.items) (seen c.loop-e.into.items) (seen c.add_maybe.new.into.items) c.loop-e-test.true c.e-item.is c.loop-e.invariant c.in_ok-add_maybe.ensures
