use Rattle.sys_table.specs.Table.{FitsEntry}
use Rattle.sys_table.proofs.Pairs.{PairsBelow}
use Rattle.sys_table.proofs.pattern.do_entries_fit.Given as goal

-- each entry before this one fits its kind
abbrev pub invariant-loop-i : goal.invariant-loop-i
invariant-loop-i l = PairsBelow FitsEntry l.kinds l.pattern l.i
