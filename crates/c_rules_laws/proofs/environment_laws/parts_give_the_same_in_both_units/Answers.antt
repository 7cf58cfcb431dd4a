use Rattle.c_rules_laws.proofs.Parts.{parts_give_the_same}
use Rattle.c_rules_laws.proofs.environment_laws.parts_give_the_same_in_both_units.Goals as goal

pub returns : goal.returns
returns c = parts_give_the_same
