-- No false alarm on a program with null calls round its marked calls.
use Rattle.std.proofs.Common.{sym, subst}
use Rattle.c_meaning.specs.ProgramLanguages.{Dyck}
use Rattle.c_meaning.specs.GraphOfProgram.{graph_of_program}
use Rattle.null_calls_laws.specs.Monitors.{IsAcceptedByAll}
use Rattle.null_calls_laws.proofs.MonitorLemmas.{accept_marked_runs}
use Rattle.null_calls_laws.proofs.NoAlarm.{marked_runs_raise_none}
use Rattle.null_calls_laws.specs.NoFalseAlarmInstrumented.{InstrumentedRunsAreWords, MonitorsAcceptInstrumentedRuns}
use Rattle.null_calls_laws.proofs.Worlds.{instrumented_run_marked}

pub instrumented_runs_are_words : InstrumentedRunsAreWords
instrumented_runs_are_words p q n typed free is records turns =
    subst (λ r. Dyck p r.trace) (sym (instrumented_run_marked p q n typed is records turns)) (marked_runs_raise_none p n typed free records turns)

pub monitors_accept_instrumented_runs : MonitorsAcceptInstrumentedRuns
monitors_accept_instrumented_runs p q n typed free is records turns bound =
    subst (λ r. IsAcceptedByAll (graph_of_program p) bound r.trace) (sym (instrumented_run_marked p q n typed is records turns)) (accept_marked_runs p n typed free records turns bound)
