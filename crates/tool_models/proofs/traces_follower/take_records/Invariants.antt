use Rattle.std.proofs.Common.{ℕ, List, ◌++◌, take}
use Rattle.flow_model.specs.Graph.{Graph}
use Rattle.trace_file.specs.declared.record.Record.{Record}
use Rattle.trace_file.specs.declared.version.TracesVersion.{TracesVersion}
use Rattle.tool_models.proofs.traces_follower.take_records.Given as goal

-- the records so far were taken after those before
abbrev pub invariant-loop-one : goal.invariant-loop-one
invariant-loop-one g l = (graph : Graph) (k : ℕ) (version : TracesVersion) (before : List Record) → g.W.Watches.watched l.fn.watches graph k version before → g.W.Watches.watched l.watches graph k version (before ++ take l.one-index l.records)
