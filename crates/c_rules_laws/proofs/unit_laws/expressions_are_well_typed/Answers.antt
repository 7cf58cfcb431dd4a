use Rattle.c_rules_laws.proofs.Fine.{expressions_well_typed}
use Rattle.c_rules_laws.proofs.unit_laws.expressions_are_well_typed.Goals as goal

pub returns : goal.returns
returns c = expressions_well_typed
