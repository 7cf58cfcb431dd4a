use Rattle.c_rules_laws.proofs.UnitTable.{unit_parts}
use Rattle.c_rules_laws.proofs.unit_laws.units_are_well_typed.Goals as goal

pub returns : goal.returns
returns c = unit_parts
