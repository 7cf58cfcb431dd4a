use Rattle.c_rules.proofs.BelowUnits.{no_null_call}
use Rattle.c_rules.proofs.laws.a_plain_program_calls_no_null_call.Goals as goal

pub returns : goal.returns
returns c = no_null_call
