-- Runs of small programs, computed.
use Rattle.std.proofs.Common.{◌≡◌, ℕ, ℤ, pos, List, [], ◌∷◌, refl}
use Rattle.dm_base.specs.declared.event.Event.{Event}
use Rattle.dm_base.specs.declared.event.Event.TheVariants.{Sys}
use Rattle.dm_base.specs.declared.outcome.Outcome.TheVariants as outcomes
use Rattle.sys_table.specs.declared.sys_result.SysResult.{SysResult}
use Rattle.sys_table.specs.Table.{table}
use Rattle.c_meaning.specs.Runs.{Run, run}
pub use Rattle.c_tree.proofs.TypedTrials.{source_b}

abbrev pub the_record : ℕ → SysResult
the_record n = record { value = pos n; bytes = [] }

abbrev pub the_call : ℕ → ℕ → Event
the_call x n = Sys x [] (pos n)

abbrev pub ended : ℤ → List Event → Run
ended z t = record { outcome = outcomes.Exit z; trace = t }

-- getpid, getuid, getpid
b_runs : run source_b (the_record 100 ∷ the_record 0 ∷ the_record 101 ∷ []) 3 ≡ ended (pos 0) (the_call 14 100 ∷ the_call 16 0 ∷ the_call 14 101 ∷ [])
unfolding table
b_runs = refl

-- no record is left for the second call
b_wants : run source_b (the_record 100 ∷ []) 3 ≡ record { outcome = outcomes.Results; trace = the_call 14 100 ∷ [] }
unfolding table
b_wants = refl

-- two turns are not enough: the third entry is that of the second call of f
b_turns : run source_b (the_record 100 ∷ the_record 0 ∷ []) 2 ≡ record { outcome = outcomes.Turns; trace = the_call 14 100 ∷ the_call 16 0 ∷ [] }
unfolding table
b_turns = refl
