-- A run can be written as a trace, and what a command makes of a program and results that files were read as.
use Rattle.std.proofs.Common.{◌≡◌, ℕ, ◌≤◌, List, Option, Some, None, IfSome, inl, inr, subst, arith}
use Rattle.dm_base.specs.declared.mode.Mode.TheVariants.{Instrumented}
use Rattle.dm_base.specs.declared.outcome.TraceEnd.TheVariants.{Ended}
use Rattle.dm_io.specs.Store.{Files, file_at, IsMissing}
use Rattle.c_meaning.specs.Runs.{run}
use Rattle.c_tree.specs.View.{program_of}
use Rattle.tool_steps.specs.declared.source.Source.{Source}
use Rattle.tool_steps.specs.Sources.{IsSourceOf, RefusesSource}
use Rattle.tool_steps.proofs.SourceLemmas.{source_accepted}
use Rattle.sys_table.specs.declared.sys_result.SysResult.{SysResult}
use Rattle.sys_table.specs.ResultsText.{AreResultsWithin, IsResultsRefusal}
use Rattle.tool_frame.specs.declared.stop.Stop.{Stop}
use Rattle.tool_frame.specs.declared.stop.Stop.TheVariants as stops
use Rattle.tool_frame.specs.Stop.{Stops}
use Rattle.trace_file.specs.Trace.{IsTrace}
use Rattle.tool_texts.specs.Run.{Runs, RefusesToRun, LacksToRun, IsSomeProgram}
use Rattle.tool_steps.specs.Results.{run_text}
use Rattle.tool_steps.specs.ResultsStops.{RefusesResultsAlone}
use Rattle.tool_frame.proofs.RiseLemmas.{rises}

-- what a command makes of files that were read

pub runs : (told : Option Files) (name results : List ℕ) (turns : ℕ) (text : List ℕ) (source : Source) (records : List SysResult) → IfSome told (λ files. IsSourceOf (file_at files name) Instrumented source) → IfSome told (λ files. AreResultsWithin (file_at files results) records) → text ≡ run_text (run (program_of source.program) records turns) → IsTrace text (run (program_of source.program) records turns).trace (Ended (run (program_of source.program) records turns).outcome) → IfSome told (λ files. Runs files name results turns text)
runs None name results turns text source records is read writes formed = tt
runs (Some files) name results turns text source records is read writes formed =
    record { program = program_of source.program; records = records; accepted = source_accepted (file_at files name) Instrumented source is; recorded = read; is = writes; formed = formed }

some_program : (told : Option Files) (name : List ℕ) (source : Source) → IfSome told (λ files. IsSourceOf (file_at files name) Instrumented source) → IfSome told (λ files. IsSomeProgram files name)
some_program None name source is = tt
some_program (Some files) name source is = (program_of source.program, source_accepted (file_at files name) Instrumented source is)

-- why the results were not read
at_results : (told : Option Files) (name results : List ℕ) (source : Source) (stop : Stop) (before between after : ℕ) → IfSome told (λ files. IsSourceOf (file_at files name) Instrumented source) → before ≤ between → Stops stop (RefusesResultsAlone told results) (IsMissing told results) between after → Stops stop (RefusesToRun told name results) (LacksToRun told name results) before after
at_results told name results source stops.Usage before between after is less why = why
at_results told name results source (stops.Source line) before between after is less why = absurd (cc (why.2))
at_results told name results source (stops.Model line) before between after is less why = absurd (cc (why.2))
at_results told name results source (stops.Record line) before between after is less why = inr (why.0, why.1, why.2, why.3, both (λ files. IsSomeProgram files name) (λ files. IsResultsRefusal why.0 (file_at files results)) told (some_program told name source is) why.4)
  where
    both : (P Q : Files → Type 0) (t : Option Files) → IfSome t P → IfSome t Q → IfSome t (λ files. P files × Q files)
    both P Q None p q = tt
    both P Q (Some files) p q = (p, q)
at_results told name results source stops.Read before between after is less (inl rose) = inl (rises before between after less rose)
at_results told name results source stops.Read before between after is less (inr lacks) = inr (inr (lacks, some_program told name source is))
at_results told name results source stops.Write before between after is less why = why
at_results told name results source stops.OutOfMemory before between after is less why = tt

-- after the source was read, which changed no file
pub stops_at_results : (told mid : Option Files) (name results : List ℕ) (source : Source) (stop : Stop) (before between after : ℕ) → mid ≡ told → IfSome told (λ files. IsSourceOf (file_at files name) Instrumented source) → before ≤ between → Stops stop (RefusesResultsAlone mid results) (IsMissing mid results) between after → Stops stop (RefusesToRun told name results) (LacksToRun told name results) before after
stops_at_results told mid name results source stop before between after same is less why =
    at_results told name results source stop before between after is less
    (subst (λ (t : Option Files). Stops stop (RefusesResultsAlone t results) (IsMissing t results) between after) same why)

-- why the source was not read
pub stops_at_source : (told : Option Files) (name results : List ℕ) (stop : Stop) (before after : ℕ) → Stops stop (RefusesSource Instrumented told name) (IsMissing told name) before after → Stops stop (RefusesToRun told name results) (LacksToRun told name results) before after
stops_at_source told name results stops.Usage before after why = why
stops_at_source told name results (stops.Source line) before after why = inl why
stops_at_source told name results (stops.Model line) before after why = inl why
stops_at_source told name results (stops.Record line) before after why = inl why
stops_at_source told name results stops.Read before after (inl rose) = inl rose
stops_at_source told name results stops.Read before after (inr lacks) = inr (inl lacks)
stops_at_source told name results stops.Write before after why = why
stops_at_source told name results stops.OutOfMemory before after why = tt
