use Rattle.std.proofs.Common.{◌≡◌, map, take}
use Rattle.c_tree.specs.View.{ctype_of}
use Rattle.c_tree.proofs.copying.+copying.Given as goal

abbrev pub invariant-copy_types-loop-i : goal.invariant-copy_types-loop-i
invariant-copy_types-loop-i l = map ctype_of l.copied.items ≡ map ctype_of (take l.i l.ts)
