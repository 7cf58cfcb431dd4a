use Rattle.std.proofs.Common.{◌≡◌, drop}
use Rattle.c_values.specs.Seen.{seen}
use Rattle.c_meaning.specs.Runs.{with_parameters}
use Rattle.ref_machine_steps.proofs.objects.set_parameters.Given as goal

abbrev pub invariant-loop-i : goal.invariant-loop-i
invariant-loop-i l =
    with_parameters l.activation 0 l.values (seen l.fn.memory) ≡ with_parameters l.activation l.i (drop l.i l.values) (seen l.memory)
