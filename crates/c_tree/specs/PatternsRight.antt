-- The patterns of direct system calls are right for them.
use Rattle.std.specs.Prelude.{ℕ}
use Rattle.sys_table.specs.Table.{IsRight}
use Rattle.c_tree.specs.Tree.{Exprs}
use Rattle.c_tree.specs.Constants.{pattern_of}

-- each entry of the pattern is in the range of its argument
abbrev pub PatternsAreRight : Type 0
PatternsAreRight = (name : ℕ) (es : Exprs) → IsRight name (pattern_of name es)
