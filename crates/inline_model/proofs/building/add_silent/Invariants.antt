use Rattle.std.proofs.Common.{◌≡◌, ◌++◌, take}
use Rattle.inline_model.proofs.building.add_silent.Given as goal

abbrev pub invariant-loop-i : goal.invariant-loop-i
invariant-loop-i l = l.builder ≡ record l.fn.builder { silent = l.fn.builder.silent ++ take l.i l.edges }
