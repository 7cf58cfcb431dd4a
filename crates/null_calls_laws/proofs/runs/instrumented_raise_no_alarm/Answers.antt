use Rattle.null_calls_laws.proofs.NoAlarmInstrumented.{instrumented_runs_are_words, monitors_accept_instrumented_runs}
use Rattle.null_calls_laws.proofs.runs.instrumented_raise_no_alarm.Goals as goal

pub returns : goal.returns
returns c = record {
  words = instrumented_runs_are_words;
  monitors = monitors_accept_instrumented_runs;
}
