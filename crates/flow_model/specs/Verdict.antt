-- What a monitor of a model says of a trace.
use Rattle.std.specs.Prelude.{◌≡◌, ℕ, ◌+◌, ◌<◌, ◌≤◌, List, length, take}
use Rattle.dm_base.specs.declared.event.Event.{Event}
use Rattle.dm_base.specs.declared.verdict.Step.{Step}
use Rattle.dm_base.specs.declared.verdict.Step.TheVariants.{Kept, Rejected, Bound}
use Rattle.dm_base.specs.declared.verdict.Verdict.{Verdict}
use Rattle.dm_base.specs.declared.verdict.Verdict.TheVariants as verdicts
use Rattle.dm_base.specs.Trace.{depth}
use Rattle.flow_model.specs.declared.which.Which.{Which}
use Rattle.flow_model.specs.declared.which.Which.TheVariants.{Callgraph, Stack, Dyck}
use Rattle.flow_model.specs.Graph.{Graph}
use Rattle.flow_model.specs.Language.{Reads}

-- the trace is in the language, and in the Dyck model no deeper than the bound
abbrev pub IsKept : Which → Graph → ℕ → List Event → Type 0
IsKept Callgraph g bound t = Reads Callgraph g t
IsKept Stack g bound t = Reads Stack g t
IsKept Dyck g bound t = Reads Dyck g t × (depth t ≤ bound)

-- each shorter first part of the trace is kept, and the one of k events isn't in the language
pub record IsRejectedAt (which : Which) (g : Graph) (bound : ℕ) (t : List Event) (k : ℕ) : Type 0 where
  pub within : k ≤ length t
  pub kept : (j : ℕ) → j < k → IsKept which g bound (take j t)
  pub refused : Reads which g (take k t) → ⊥

-- each shorter first part is kept, and the one of k events is in the language of the Dyck model and has one call too many open
pub record IsBoundAt (which : Which) (g : Graph) (bound : ℕ) (t : List Event) (k : ℕ) : Type 0 where
  pub dyck : which ≡ Dyck
  pub within : k ≤ length t
  pub kept : (j : ℕ) → j < k → IsKept which g bound (take j t)
  pub read : Reads which g (take k t)
  pub deep : depth (take k t) ≡ bound + 1

-- each first part of the trace is kept, the whole included
pub record IsAccepted (which : Which) (g : Graph) (bound : ℕ) (t : List Event) : Type 0 where
  pub kept : (j : ℕ) → j ≤ length t → IsKept which g bound (take j t)

-- the verdict on a whole trace; events are counted from 1
abbrev pub IsVerdict : Which → Graph → ℕ → List Event → Verdict → Type 0
IsVerdict which g bound t (verdicts.Accepted n) = (n ≡ length t) × IsAccepted which g bound t
IsVerdict which g bound t (verdicts.Rejected k) = IsRejectedAt which g bound t k
IsVerdict which g bound t (verdicts.Bound k) = IsBoundAt which g bound t k

-- what is answered at the last event of a history
abbrev pub IsStep : Which → Graph → ℕ → List Event → Step → Type 0
IsStep which g bound t Kept = IsAccepted which g bound t
IsStep which g bound t Rejected = (k : ℕ) × IsRejectedAt which g bound t k
IsStep which g bound t Bound = (k : ℕ) × IsBoundAt which g bound t k
