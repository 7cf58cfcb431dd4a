-- For private contracts and proofs alone: which numbers may stand first where a line has to go after the last one, and the least of them.
use Rattle.std.specs.Prelude.{◌≡◌, ℕ, ◌≤◌, Option}
use Rattle.flow_model.specs.declared.records.SilentEdge.{SilentEdge}
use Rattle.flow_model.specs.declared.records.SysEdge.{SysEdge}
use Rattle.flow_model.specs.Call.{Call}
use Rattle.model_file.specs.declared.version.ModelVersion.{ModelVersion}
use Rattle.model_file.specs.Lines.{IsAfterSilent, IsAfterSys, IsAfterSite}
use Rattle.model_file.specs.ModelText.{IsSmall, IsSpelledSilent, IsSpelledSys, IsSpelledCall}

-- the numbers from the least one up that a line may hold are those that fit
pub record IsLeast (Fits : ℕ → Type 0) (least : ℕ) : Type 0 where
  pub above : (n : ℕ) → least ≤ n → IsSmall n → Fits n
  pub below : (n : ℕ) → Fits n → least ≤ n

-- a silent edge that may be in a line, after the last one
pub record IsNextSilent (last : Option SilentEdge) (e : SilentEdge) : Type 0 where
  pub spelled : IsSpelledSilent e
  pub after : IsAfterSilent last e

-- such an edge begins at the node
abbrev pub BeginsSilent : Option SilentEdge → ℕ → Type 0
BeginsSilent last n = (e : SilentEdge) × IsNextSilent last e × (e.from ≡ n)

-- such an edge goes from the one node to the other
abbrev pub JoinsSilent : Option SilentEdge → ℕ → ℕ → Type 0
JoinsSilent last n m = IsNextSilent last (record { from = n; to = m })

-- a call edge that may be in a line, with a site after the last one
pub record IsNextCall (last : Option ℕ) (c : Call) : Type 0 where
  pub spelled : IsSpelledCall c
  pub after : IsAfterSite last c.site

-- a system-call edge that may be in a line of the version, after the last one
pub record IsNextSys (version : ModelVersion) (last : Option SysEdge) (e : SysEdge) : Type 0 where
  pub spelled : IsSpelledSys version e
  pub after : IsAfterSys last e
