use Rattle.std.proofs.Common.{◌≡◌, drop, length}
use Rattle.c_values.specs.Seen.{seen}
use Rattle.c_meaning.specs.SystemCalls.{arguments}
use Rattle.ref_machine_steps.proofs.BufferLemmas.{onto}
use Rattle.ref_machine_steps.proofs.requests.arguments.Given as goal

abbrev pub invariant-loop-value : goal.invariant-loop-value
invariant-loop-value l =
    (arguments (seen l.memory) l.values ≡ onto l.list (arguments (seen l.memory) (drop l.value-index l.values))) × (length l.list ≡ l.value-index)
