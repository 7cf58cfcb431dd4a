-- What a process of a fleet does alone: its run, cut before the first event that its model refuses.
use Rattle.std.specs.Prelude.{◌≡◌, ℕ, ◌-◌, ◌<◌, ◌≤◌, Some, length, take, slice_get}
use Rattle.sys_table.specs.Table.{IsRecorded}
use Rattle.c_meaning.specs.Runs.{Run}
use Rattle.flow_model.specs.declared.which.Which.{Which}
use Rattle.flow_model.specs.Graph.{Graph}
use Rattle.flow_model.specs.Verdict.{IsAccepted, IsRejectedAt, IsBoundAt}
use Rattle.trace_file.specs.EventText.{IsCountedOutcome}
use Rattle.fleet.specs.declared.advance.Advance.{Advance}
use Rattle.fleet.specs.declared.advance.Advance.TheVariants.{Made, Rejected, Bound, Ended}
use Rattle.fleet.specs.declared.standing.Standing.{Standing}
use Rattle.fleet.specs.declared.standing.Standing.TheVariants as standings

-- What a process with this run has come to alone, once it was advanced k times. An event of the run is refused where it is the first for which the verdict on the events through it isn't Accepted.
abbrev pub IsAlone : Which → Graph → ℕ → Run → ℕ → Standing → Type 0
IsAlone which g limit run k (standings.Open n) = (n ≡ k) × (k ≤ length run.trace) × IsAccepted which g limit (take k run.trace)
IsAlone which g limit run k (standings.Ended n outcome) = (n ≡ length run.trace) × (n < k) × IsAccepted which g limit run.trace × (outcome ≡ run.outcome)
IsAlone which g limit run k (standings.Rejected m e) = (1 ≤ m) × (m ≤ k) × IsRejectedAt which g limit run.trace m × (slice_get run.trace (m - 1) ≡ Some e)
IsAlone which g limit run k (standings.Bound m e) = (1 ≤ m) × (m ≤ k) × IsBoundAt which g limit run.trace m × (slice_get run.trace (m - 1) ≡ Some e)

-- its event and its outcome are such as a trace file holds
abbrev pub IsTellable : Standing → Type 0
IsTellable (standings.Open n) = Unit {0}
IsTellable (standings.Ended n outcome) = IsCountedOutcome outcome
IsTellable (standings.Rejected m e) = IsRecorded e
IsTellable (standings.Bound m e) = IsRecorded e

-- what is answered at the k-th advance
abbrev pub IsAnswer : Which → Graph → ℕ → Run → ℕ → Advance → Type 0
IsAnswer which g limit run k (Made e) = IsAlone which g limit run k (standings.Open k) × (1 ≤ k) × (slice_get run.trace (k - 1) ≡ Some e)
IsAnswer which g limit run k (Rejected e) = (m : ℕ) × IsAlone which g limit run k (standings.Rejected m e)
IsAnswer which g limit run k (Bound e) = (m : ℕ) × IsAlone which g limit run k (standings.Bound m e)
IsAnswer which g limit run k (Ended outcome) = (n : ℕ) × IsAlone which g limit run k (standings.Ended n outcome)

-- a process has come to one thing alone
pub record StandsAlone : Type 0 where
  pub one : (which : Which) (g : Graph) (limit : ℕ) (run : Run) (k : ℕ) (s r : Standing) → IsAlone which g limit run k s → IsAlone which g limit run k r → s ≡ r
