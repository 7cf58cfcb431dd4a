use Rattle.null_calls_laws.proofs.Worlds.{instrumented_runs, instrumented_run_marked, instrumented_add_null_calls, erased_brackets_run_alike}
use Rattle.null_calls_laws.proofs.runs.instrumented_run_marked.Goals as goal

pub returns : goal.returns
returns c = record {
  instrumented_unit = instrumented_runs;
  with_null_calls = instrumented_run_marked;
  differ = instrumented_add_null_calls;
  erased = erased_brackets_run_alike;
}
