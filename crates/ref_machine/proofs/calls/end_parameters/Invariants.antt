use Rattle.std.proofs.Common.{◌≡◌, ◌-◌}
use Rattle.c_values.specs.Seen.{seen}
use Rattle.c_meaning.specs.Meaning.{without}
use Rattle.ref_machine_frames.specs.Frames.{numbers}
use Rattle.ref_machine.proofs.calls.end_parameters.Given as goal

abbrev pub invariant-loop-variable : goal.invariant-loop-variable
invariant-loop-variable l =
    without l.activation (numbers 0 l.count) (seen l.fn.memory) ≡ without l.activation (numbers l.variable (l.count - l.variable)) (seen l.memory)
