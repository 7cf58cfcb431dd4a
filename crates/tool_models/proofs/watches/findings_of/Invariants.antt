use Rattle.std.proofs.Common.{ℕ, List, take}
use Rattle.flow_model.specs.Graph.{Graph}
use Rattle.trace_file.specs.declared.record.Record.{Record}
use Rattle.trace_file.specs.declared.version.TracesVersion.{TracesVersion}
use Rattle.watch.specs.Own.{own}
use Rattle.tool_models.specs.Found.{AreFound}
use Rattle.tool_models.specs.Watched.{asked_about}
use Rattle.tool_models.proofs.watches.findings_of.Given as goal

-- what is found of the processes so far
abbrev pub invariant-loop-pid : goal.invariant-loop-pid
invariant-loop-pid g l = (graph : Graph) (k : ℕ) (version : TracesVersion) (records : List Record) → g.W.Watches.watched l.fn.watches graph k version records → AreFound graph k (λ p. own version p records) (asked_about g.W.Watches.monitors (take l.pid-index l.pid-items)) l.findings
