-- What a file of recorded results is, or why it is refused.
use Rattle.std.proofs.Common.{List, ℕ, ◌≢◌}
use Rattle.dm_io.specs.Store.{Files, file_at}
use Rattle.sys_table.proofs.ResultsLemmas.{not_refused}
use Rattle.sys_table.specs.ResultsText.{IsResultsRefusal}
use Rattle.sys_table.specs.declared.results_error.ResultsError.{ResultsError}
use Rattle.sys_table.specs.declared.results_error.ResultsError.TheVariants as errors
use Rattle.tool_steps.specs.Results.{AreSomeResults}

pub results_or_refused : (told : Files) (name : List ℕ) (error : ResultsError) → AreSomeResults told name → error ≢ errors.OutOfMemory → IsResultsRefusal error (file_at told name) → ⊥
results_or_refused told name error are named refusal = named (not_refused error (file_at told name) are.0 are.1 refusal)
