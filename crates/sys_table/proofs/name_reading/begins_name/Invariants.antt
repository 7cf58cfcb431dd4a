use Rattle.std.proofs.Common.{◌≡◌, ℕ, ◌<◌, ◌≤◌, List, ◌++◌}
use Rattle.sys_table.specs.Table.{name_of}
use Rattle.sys_table.proofs.name_reading.begins_name.Given as goal

-- the name of no call before this one begins with the text
abbrev pub invariant-loop-i : goal.invariant-loop-i
invariant-loop-i l = (x : ℕ) (rest : List ℕ) → l.least ≤ x → x < l.i → name_of x ≡ l.text ++ rest → ⊥
