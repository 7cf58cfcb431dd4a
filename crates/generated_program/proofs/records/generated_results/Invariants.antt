use Rattle.std.proofs.Common.{◌≡◌, ◌-◌, ◌++◌}
use Rattle.generated_program.specs.Generator.{results_behind}
use Rattle.generated_program.proofs.records.generated_results.Given as goal

abbrev pub invariant-loop-done : goal.invariant-loop-done
invariant-loop-done l = l.records.items ++ results_behind l.done (l.count - l.done) ≡ results_behind 0 l.count
