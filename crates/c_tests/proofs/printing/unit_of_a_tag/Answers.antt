use Rattle.c_tests.proofs.TagUnit.{tag_items}
use Rattle.c_tests.proofs.printing.unit_of_a_tag.Goals as goal

pub invariant_of-result : goal.invariant_of-result
invariant_of-result c = record { spelled = tag_items _ _ _ c.in_ok-push.ensures.items c.new-items.ensures.items c.in_ok-name.ensures }
