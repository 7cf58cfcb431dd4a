use Rattle.c_meaning.proofs.LongerParts.{more_records_change_nothing, more_turns_change_nothing}
use Rattle.c_meaning.proofs.laws.more_changes_nothing.Goals as goal

-- src/laws.rt:13:1
pub returns-clause-records : goal.returns-clause-records
returns-clause-records c = more_records_change_nothing

-- src/laws.rt:13:1
pub returns-clause-turns : goal.returns-clause-turns
returns-clause-turns c = more_turns_change_nothing
