use Rattle.c_syntax.specs.View.{declarator_of}
use Rattle.c_syntax.specs.UnitView.{declarators_of}
use Rattle.c_rules.specs.Tags.{tags_of_declarator, tags_of_declarators}
use Rattle.c_syntax.specs.SeenNames.{seen}
use Rattle.c_check_counts.proofs.Lists.{more_flat, all_flat}
use Rattle.c_check_counts.proofs.TagLists.{declarators_flat}
use Rattle.c_check_counts.proofs.tags.add_declarators.Goals as goal

pub returns : goal.returns
returns c =
    all_flat (λ d. tags_of_declarator (declarator_of d)) c.args.ds.now c.loop-d.d-index (seen c.args.into.now.items) (seen c.loop-d.into.items) (tags_of_declarators (declarators_of c.args.ds.now)) c.loop-d-test.false (declarators_flat c.args.ds.now) c.loop-d.invariant

pub loop-d-preserved : goal.loop-d-preserved
loop-d-preserved c =
    more_flat (λ d. tags_of_declarator (declarator_of d)) c.args.ds.now c.loop-d.d-index c.d-item.result (seen c.args.into.now.items) (seen c.loop-d.into.items) (seen c.add_declarator.new.into.items) c.loop-d-test.true c.d-item.is c.loop-d.invariant c.in_ok-add_declarator.ensures
