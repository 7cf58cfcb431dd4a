use Rattle.std.proofs.Common.{◌≡◌, map, take}
use Rattle.c_syntax.specs.View.{declarator_of}
use Rattle.c_syntax_nodes.proofs.parts.copy_declarators.Given as goal

abbrev pub invariant-loop-i : goal.invariant-loop-i
invariant-loop-i l = map declarator_of l.copied.items ≡ map declarator_of (take l.i l.ds)
