use Rattle.std.proofs.Common.{◌≡◌, ◌++◌, drop}
use Rattle.c_tree.specs.View.{types_of}
use Rattle.null_calls_laws.specs.Temporaries.{arguments_kept}
use Rattle.null_calls_temporaries.specs.Kept.{temporaries_of}
use Rattle.null_calls_temporaries.proofs.temporaries.add_arguments.Given as goal

abbrev pub invariant-loop-i : goal.invariant-loop-i
invariant-loop-i l = temporaries_of l.into.items ++ arguments_kept l.site l.i (types_of (drop l.i l.ts)) ≡ temporaries_of l.fn.into.items ++ arguments_kept l.site 0 (types_of l.ts)
