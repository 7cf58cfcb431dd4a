-- What `run` makes of its files and why it refuses them never hold both, and they are refused with one status.
use Rattle.std.proofs.Common.{◌≡◌, ℕ, List, Option, Some, None, inl, inr, sym, ◌∙◌}
use Rattle.dm_base.specs.declared.verdict.Status.{Status}
use Rattle.dm_io.specs.Store.{Files}
use Rattle.sys_table.specs.declared.results_error.ResultsError.TheVariants as errors
use Rattle.tool_texts.specs.Run.{Runs, RefusesToRun, IsSomeProgram, IsReadyToRun}
use Rattle.tool_steps.specs.Results.{AreSomeResults}
use Rattle.tool_steps.proofs.ResultsRefused.{results_or_refused}

module _ (told : Files) (source results : List ℕ) where
  good_files : (status : Status) (line : List ℕ) → IsSomeProgram told source → AreSomeResults told results → RefusesToRun (Some told) source results status line → ⊥
  good_files status line is are (inl refuses) = (refuses.4).1 is.0 is.1
  good_files status line is are (inr refuses) = results_or_refused told results refuses.0 are refuses.1 (refuses.4).1

  pub run_apart : (turns : ℕ) (text : List ℕ) (status : Status) (line : List ℕ) → Runs told source results turns text → RefusesToRun (Some told) source results status line → ⊥
  run_apart turns text status line makes refuses = good_files status line (makes.program, makes.accepted) (makes.records, makes.recorded) refuses

  pub run_status : (status later : Status) (line other : List ℕ) → RefusesToRun (Some told) source results status line → RefusesToRun (Some told) source results later other → status ≡ later
  run_status status later line other (inl a) (inl b) = a.2 ∙ sym b.2
  run_status status later line other (inl a) (inr b) = absurd ((a.4).1 ((b.4).0).0 ((b.4).0).1)
  run_status status later line other (inr a) (inl b) = absurd ((b.4).1 ((a.4).0).0 ((a.4).0).1)
  run_status status later line other (inr a) (inr b) = a.2 ∙ sym b.2

pub run_ready : (files : Option Files) (source results : List ℕ) (status : Status) (line : List ℕ) → IsReadyToRun files source results → RefusesToRun files source results status line → ⊥
run_ready None source results status line ready refuses = ready
run_ready (Some told) source results status line ready refuses = good_files told source results status line ready.0 ready.1 refuses
