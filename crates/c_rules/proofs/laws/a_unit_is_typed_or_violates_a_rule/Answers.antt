use Rattle.c_rules.specs.Units.{checked}
use Rattle.c_rules.proofs.CheckedLemmas.{fine_or_faulty}
use Rattle.c_rules.proofs.laws.a_unit_is_typed_or_violates_a_rule.Goals as goal

pub returns : goal.returns
returns c u m = fine_or_faulty (checked u m)
