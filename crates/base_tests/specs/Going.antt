-- For private contracts and proofs alone: a watch that tests go on with.
use Rattle.std.specs.Prelude.{ℕ, List}
use Rattle.flow_model.specs.declared.monitor.Monitor as monitor
use Rattle.flow_model.specs.Graph.{Graph}
use Rattle.trace_file.specs.declared.record.Record.{Record}
use Rattle.trace_file.specs.declared.version.TracesVersion.{TracesVersion}
use Rattle.watch.specs.declared.watch.Watch.{Watch}
use Rattle.watch.specs.Watching.{StandsFor}

-- the watch stands for some records
abbrev pub IsGoing : {M P : Type 0} → monitor.Ghosts M P → Watch M P → Type 0
IsGoing laws w = (g : Graph) × (k : ℕ) × (version : TracesVersion) × (records : List Record) × StandsFor laws g k version w records
