use Rattle.std.proofs.Common.{◌≡◌, ◌<◌, ℕ}
use Rattle.sys_table.specs.Table.{name_of}
use Rattle.sys_table.proofs.table.find.Given as goal

-- no call before this one has the name
abbrev pub invariant-loop-i : goal.invariant-loop-i
invariant-loop-i l = (x : ℕ) → x < l.i → name_of x ≡ l.text → ⊥
