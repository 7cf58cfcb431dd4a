use Rattle.std.proofs.Common.{◌≡◌, map, take}
use Rattle.c_syntax_nodes.specs.Copied.{member_of}
use Rattle.c_syntax_nodes.proofs.parts.copy_members.Given as goal

abbrev pub invariant-loop-i : goal.invariant-loop-i
invariant-loop-i l = map member_of l.copied.items ≡ map member_of (take l.i l.members)
