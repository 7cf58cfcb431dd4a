use Rattle.std.proofs.Common.{◌≡◌, drop}
use Rattle.c_values.specs.Seen.{seen}
use Rattle.c_meaning.specs.Meaning.{without}
use Rattle.ref_machine_steps.proofs.objects.end_variables.Given as goal

abbrev pub invariant-loop-variable : goal.invariant-loop-variable
invariant-loop-variable l =
    without l.activation l.variables (seen l.fn.memory) ≡ without l.activation (drop l.variable-index l.variables) (seen l.memory)
