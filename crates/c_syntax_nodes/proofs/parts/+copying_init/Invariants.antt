use Rattle.std.proofs.Common.{◌≡◌, map, take}
use Rattle.c_syntax.specs.UnitView.{init_of}
use Rattle.c_syntax_nodes.proofs.parts.+copying_init.Given as goal

abbrev pub invariant-copy_inits-loop-i : goal.invariant-copy_inits-loop-i
invariant-copy_inits-loop-i l = map init_of l.copied.items ≡ map init_of (take l.i l.list)
