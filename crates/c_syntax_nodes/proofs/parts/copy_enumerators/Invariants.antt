use Rattle.std.proofs.Common.{◌≡◌, map, take}
use Rattle.c_syntax_nodes.specs.Copied.{enumerator_of}
use Rattle.c_syntax_nodes.proofs.parts.copy_enumerators.Given as goal

abbrev pub invariant-loop-i : goal.invariant-loop-i
invariant-loop-i l = map enumerator_of l.copied.items ≡ map enumerator_of (take l.i l.list)
