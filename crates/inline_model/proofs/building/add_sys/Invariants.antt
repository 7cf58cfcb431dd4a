use Rattle.std.proofs.Common.{◌≡◌, ◌++◌, take}
use Rattle.inline_model.proofs.building.add_sys.Given as goal

abbrev pub invariant-loop-i : goal.invariant-loop-i
invariant-loop-i l = l.builder ≡ record l.fn.builder { sys = l.fn.builder.sys ++ take l.i l.edges }
