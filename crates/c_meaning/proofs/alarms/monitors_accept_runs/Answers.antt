use Rattle.c_meaning.proofs.MonitorLemmas.{accept_runs, accept_marked_runs}
use Rattle.c_meaning.proofs.alarms.monitors_accept_runs.Goals as goal

pub returns-clause-runs : goal.returns-clause-runs
returns-clause-runs c = accept_runs

pub returns-clause-marked_runs : goal.returns-clause-marked_runs
returns-clause-marked_runs c = accept_marked_runs
