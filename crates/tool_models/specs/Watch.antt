-- What `watch MODEL TRACES WHICH [K]` makes of its files, and why it refuses them.
use Rattle.std.specs.Prelude.{◌⊎◌, ℕ, List, Option, IsSomeAnd}
use Rattle.dm_base.specs.declared.verdict.Status.{Status}
use Rattle.dm_io.specs.Store.{Files, file_at}
use Rattle.flow_model.specs.declared.which.Which.{Which}
use Rattle.flow_model.specs.Graph.{Graph}
use Rattle.model_file.specs.Refusal.{IsModel}
use Rattle.trace_file.specs.declared.record.Record.{Record}
use Rattle.trace_file.specs.declared.version.TracesVersion.{TracesVersion}
use Rattle.trace_file.specs.Traces.{AreTracesWithin, IsTracesRefusal}
use Rattle.tool_files.specs.Inputs.{IsAModel, RefusesModel, RefusesRecords}
use Rattle.tool_models.specs.Watched.{AreAllWatched}

-- the text is that of the verdicts of the monitors of the model in the one file on the processes of the interleaved traces in the other
pub record Watches (files : Files) (model traces : List ℕ) (monitors : List Which) (bound : ℕ) (status : Status) (text : List ℕ) : Type 0 where
  pub graph : Graph
  pub version : TracesVersion
  pub records : List Record
  pub is_model : IsModel (file_at files model) graph
  pub are_traces : AreTracesWithin (file_at files traces) version records
  pub watched : AreAllWatched monitors graph bound version records status text

abbrev pub AreSomeTraces : Files → List ℕ → Type 0
AreSomeTraces files name = (version : TracesVersion) × (records : List Record) × AreTracesWithin (file_at files name) version records

-- the files are read and refused in this order
abbrev pub RefusesToWatch : Option Files → List ℕ → List ℕ → Status → List ℕ → Type 0
RefusesToWatch files model traces status line = RefusesModel files model status line ⊎ RefusesRecords IsTracesRefusal files model traces status line

-- both files are told, and are a model and interleaved traces
abbrev pub IsReadyToWatch : Option Files → List ℕ → List ℕ → Type 0
IsReadyToWatch files model traces = IsSomeAnd files (λ told. IsAModel told model × AreSomeTraces told traces)
