use Rattle.std.proofs.Common.{◌≡◌, drop, length}
use Rattle.c_tree.specs.View.{program_of}
use Rattle.c_meaning.specs.Runs.{run}
use Rattle.ref_machine.specs.Futures.{future, records_taken}
use Rattle.ref_machine.specs.WholeRuns.{joined}
use Rattle.ref_machine.proofs.running.whole_run.Given as goal

abbrev pub invariant-events : goal.invariant-events
invariant-events l = record {
  same : run (program_of l.program) l.results l.turns ≡ joined l.trace.items (future l.machine (drop l.taken l.results));
  taken : records_taken l.machine ≡ l.taken;
}

-- the events to come
abbrev pub decreases-events : goal.decreases-events
decreases-events l = length (future l.machine (drop l.taken l.results)).trace
