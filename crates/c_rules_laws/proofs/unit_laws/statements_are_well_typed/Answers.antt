use Rattle.c_rules_laws.proofs.Fine.{statements_well_typed}
use Rattle.c_rules_laws.proofs.unit_laws.statements_are_well_typed.Goals as goal

pub returns : goal.returns
returns c = statements_well_typed
