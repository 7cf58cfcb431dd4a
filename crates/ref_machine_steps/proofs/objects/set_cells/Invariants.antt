use Rattle.std.proofs.Common.{◌≡◌, false}
use Rattle.c_values.specs.Memory.{changed}
use Rattle.c_values.specs.Seen.{seen}
use Rattle.ref_machine_steps.proofs.ObjectLemmas.{partly, object_of}
use Rattle.ref_machine_steps.proofs.objects.set_cells.Given as goal

abbrev pub invariant-loop-i : goal.invariant-loop-i
invariant-loop-i l = seen l.memory ≡ changed (seen l.fn.memory) l.name (object_of (partly l.i l.cells) false)
