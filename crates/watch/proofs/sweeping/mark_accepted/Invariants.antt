use Rattle.std.proofs.Common.{◌≡◌, ℕ, List, [], ◌++◌}
use Rattle.std.specs.Prelude.{All}
use Rattle.dm_base.specs.declared.event.Event.{Event}
use Rattle.flow_model.specs.Graph.{Graph}
use Rattle.indexmap.specs.IndexMap.{values}
use Rattle.watch.specs.Keeping.{accepted_of}
use Rattle.watch.proofs.sweeping.mark_accepted.Given as goal

abbrev pub invariant-loop-process : goal.invariant-loop-process
invariant-loop-process g l = record {
  standing : (a : Graph) × (k : ℕ) × g.M.Monitor.is_pool l.pool a × All (λ p. (h : List Event) × g.M.Monitor.stands p.monitor l.pool a k h) l.process-iterator;
  pool : (a : Graph) → g.M.Monitor.is_pool l.fn.pool a → g.M.Monitor.is_pool l.pool a;
  notes : (ms : List g.row.M.Denot) × (ms ++ accepted_of l.process-iterator ≡ accepted_of (values l.table)) × ((a : Graph) → g.M.Monitor.noted l.fn.pool a [] → g.M.Monitor.noted l.pool a ms);
  others : (m : g.row.M.Denot) (a : Graph) (k : ℕ) (h : List Event) → g.M.Monitor.stands m l.fn.pool a k h → g.M.Monitor.stands m l.pool a k h;
}
