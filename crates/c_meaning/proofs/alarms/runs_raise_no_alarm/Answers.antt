use Rattle.c_meaning.proofs.NoAlarm.{runs_raise_none, marked_runs_raise_none}
use Rattle.c_meaning.proofs.alarms.runs_raise_no_alarm.Goals as goal

pub returns-clause-runs : goal.returns-clause-runs
returns-clause-runs c = runs_raise_none

pub returns-clause-marked_runs : goal.returns-clause-marked_runs
returns-clause-marked_runs c = marked_runs_raise_none
