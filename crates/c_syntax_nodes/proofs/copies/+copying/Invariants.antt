use Rattle.std.proofs.Common.{◌≡◌, map, take}
use Rattle.c_syntax.specs.View.{expr_of}
use Rattle.c_syntax_nodes.specs.Copied.{param_of}
use Rattle.c_syntax_nodes.proofs.copies.+copying.Given as goal

abbrev pub invariant-copy_exprs-loop-i : goal.invariant-copy_exprs-loop-i
invariant-copy_exprs-loop-i l = map expr_of l.copied.items ≡ map expr_of (take l.i l.es)

abbrev pub invariant-copy_params-loop-i : goal.invariant-copy_params-loop-i
invariant-copy_params-loop-i l = map param_of l.copied.items ≡ map param_of (take l.i l.ps)
