use Rattle.std.proofs.Common.{◌≡◌, map, take}
use Rattle.c_syntax_nodes.specs.Copied.{label_of}
use Rattle.c_syntax_nodes.proofs.parts.copy_labels.Given as goal

abbrev pub invariant-loop-i : goal.invariant-loop-i
invariant-loop-i l = map label_of l.copied.items ≡ map label_of (take l.i l.labels)
