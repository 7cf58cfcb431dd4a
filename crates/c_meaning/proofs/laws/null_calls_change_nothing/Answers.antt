use Rattle.c_meaning.proofs.ErasedParts.{null_calls_change_nothing}
use Rattle.c_meaning.proofs.Plain.{run_plain}
use Rattle.c_meaning.proofs.laws.null_calls_change_nothing.Goals as goal

-- src/laws.rt:11:1
pub returns-clause-round_calls : goal.returns-clause-round_calls
returns-clause-round_calls c = null_calls_change_nothing

-- src/laws.rt:11:1
pub returns-clause-made : goal.returns-clause-made
returns-clause-made c = run_plain
