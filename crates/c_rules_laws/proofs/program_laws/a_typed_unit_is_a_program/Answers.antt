use Rattle.c_rules_laws.proofs.WholeUnits.{unit_program}
use Rattle.c_rules_laws.proofs.program_laws.a_typed_unit_is_a_program.Goals as goal

pub returns : goal.returns
returns c = unit_program
