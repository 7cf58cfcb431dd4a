use Rattle.std.proofs.Common.{◌≡◌, map, take}
use Rattle.c_syntax_nodes.specs.Copied.{part_of}
use Rattle.c_syntax_nodes.proofs.parts.copy_parts.Given as goal

abbrev pub invariant-loop-i : goal.invariant-loop-i
invariant-loop-i l = map part_of l.copied.items ≡ map part_of (take l.i l.ps)
