use Rattle.c_values.proofs.StoreLemmas.{stored_is_loaded, others_are_kept, ended_is_undefined}
use Rattle.c_values.proofs.laws.memory_keeps_values.Goals as goal

-- src/laws.rt:6:1
pub returns-clause-stored : goal.returns-clause-stored
returns-clause-stored c = stored_is_loaded

-- src/laws.rt:6:1
pub returns-clause-others : goal.returns-clause-others
returns-clause-others c = others_are_kept

-- src/laws.rt:6:1
pub returns-clause-ended : goal.returns-clause-ended
returns-clause-ended c = ended_is_undefined
