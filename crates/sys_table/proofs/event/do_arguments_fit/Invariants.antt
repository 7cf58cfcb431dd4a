use Rattle.sys_table.specs.Table.{FitsArgument}
use Rattle.sys_table.proofs.Pairs.{PairsBelow}
use Rattle.sys_table.proofs.event.do_arguments_fit.Given as goal

-- each argument before this one fits its kind
abbrev pub invariant-loop-i : goal.invariant-loop-i
invariant-loop-i l = PairsBelow FitsArgument l.kinds l.arguments l.i
