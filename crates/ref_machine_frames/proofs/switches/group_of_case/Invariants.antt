use Rattle.std.proofs.Common.{◌≡◌, drop, ◌+◌}
use Rattle.std.specs.Prelude.{option_map}
use Rattle.c_tree.specs.View.{groups_of}
use Rattle.c_meaning.specs.Meaning.{group_with, is_case}
use Rattle.ref_machine_frames.proofs.switches.group_of_case.Given as goal

abbrev pub invariant-loop-i : goal.invariant-loop-i
invariant-loop-i l = group_with (is_case l.v) (groups_of l.all) ≡ option_map (λ k. l.i + k) (group_with (is_case l.v) (groups_of (drop l.i l.all)))
