use Rattle.std.proofs.Common.{◌≡◌, drop, length}
use Rattle.c_tree.specs.View.{program_of}
use Rattle.c_meaning.specs.Runs.{run}
use Rattle.tool_steps.specs.Futures.{future, records_taken}
use Rattle.tool_steps.specs.WholeRuns.{joined}
use Rattle.tool_audit.proofs.following.followed_run.Given as goal

-- the events so far begin the run, and were heard
abbrev pub invariant-events : goal.invariant-events
invariant-events g l = record {
  same : run (program_of l.program) l.records l.turns ≡ joined l.trace.items (future l.machine (drop l.taken l.records));
  taken : records_taken l.machine ≡ l.taken;
  heard : g.L.Listener.heard l.monitors l.model l.bound l.trace.items;
}

-- the events to come
abbrev pub decreases-events : goal.decreases-events
decreases-events g l = length (future l.machine (drop l.taken l.records)).trace
