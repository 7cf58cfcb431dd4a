use Rattle.std.proofs.Common.{◌≡◌, ◌≤◌, length, drop}
use Rattle.std.specs.Prelude.{map}
use Rattle.c_tree.specs.View.{static_of}
use Rattle.c_values.specs.Seen.{seen}
use Rattle.c_meaning.specs.Runs.{first_objects}
use Rattle.ref_machine_steps.proofs.objects.static_objects.Given as goal

abbrev pub invariant-loop-number : goal.invariant-loop-number
invariant-loop-number l =
    (l.number ≤ length l.statics) × (seen l.memory ≡ first_objects l.number (drop l.number (map static_of l.statics)))

abbrev pub decreases-loop-number : goal.decreases-loop-number
decreases-loop-number l = l.number
