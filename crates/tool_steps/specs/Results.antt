-- What commands make of recorded results: the text of a run, and why the results are refused.
use Rattle.std.specs.Prelude.{ℕ, List, ◌++◌, codes, decimal}
use Rattle.dm_base.specs.declared.outcome.TraceEnd.TheVariants.{Ended}
use Rattle.dm_io.specs.Store.{Files, file_at}
use Rattle.ref_machine.specs.Runs.{Run}
use Rattle.sys_table.specs.declared.results_error.ResultsError.{ResultsError}
use Rattle.sys_table.specs.declared.results_error.ResultsError.TheVariants.{OutOfMemory, BadLine, NoEnd, TooLong, Version}
use Rattle.sys_table.specs.declared.sys_result.SysResult.{SysResult}
use Rattle.sys_table.specs.ResultsText.{AreResultsWithin}
use Rattle.trace_file.specs.Trace.{trace_text}

-- the text of the trace of a run, with the outcome
abbrev pub run_text : Run → List ℕ
run_text r = trace_text r.trace (Ended r.outcome)

-- the file is one of recorded results
abbrev pub AreSomeResults : Files → List ℕ → Type 0
AreSomeResults files name = (records : List SysResult) × AreResultsWithin (file_at files name) records

-- the line of refused results
abbrev pub results_refusal : ResultsError → List ℕ
results_refusal OutOfMemory = codes "out of memory\n"
results_refusal (BadLine k) = codes "record refused F1 line " ++ decimal k ++ codes "\n"
results_refusal NoEnd = codes "record refused F2\n"
results_refusal TooLong = codes "record refused F3\n"
results_refusal Version = codes "record refused F4\n"
