use Rattle.c_meaning.proofs.Marking.{marked_runs_differ, erased_marked_runs}
use Rattle.c_meaning.proofs.alarms.marked_runs_are_runs.Goals as goal

pub returns-clause-differ : goal.returns-clause-differ
returns-clause-differ c = marked_runs_differ

pub returns-clause-erased : goal.returns-clause-erased
returns-clause-erased c = erased_marked_runs
