-- Elements or members by their numbers.
use Rattle.std.specs.Prelude.{ℕ, ◌-◌, Option, Some, None, drop, if◌then◌else◌, nat_lt, slice_get}
use Rattle.std.specs.Borrow.{Bor}
use Rattle.c_rules.specs.Initialisers.{Slots, copies, each}
use Rattle.c_tree.specs.declared.tree.CType.{CType as TypeTree}
use Rattle.c_tree.specs.Tree.{CType}
use Rattle.c_tree.specs.View.{ctype_of}

-- the type of the one with this number
abbrev pub slot_at : Slots → ℕ → Option CType
slot_at (copies n t) i = if nat_lt i n then Some t else None
slot_at (each ts) i = slice_get ts i

-- those from this number on
abbrev pub left_from : Slots → ℕ → Slots
left_from (copies n t) i = copies (n - i) t
left_from (each ts) i = each (drop i ts)

-- a type that may be there
abbrev pub ctype_seen : Option (Bor TypeTree) → Option CType
ctype_seen None = None
ctype_seen (Some t) = Some (ctype_of t.now)
