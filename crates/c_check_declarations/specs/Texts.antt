-- For private contracts and proofs alone: the bytes of strings that may be there, arrays without a size, and arrays that initialisers give
-- their size.
use Rattle.std.specs.Prelude.{ℕ, Bool, false, List, Option, Some, None, nat_eq, nat_le}
use Rattle.std.specs.Borrow.{Bor}
use Rattle.c_rules.specs.Checked.{Checked, demand}
use Rattle.c_rules.specs.Codes.{C13}
use Rattle.c_rules.specs.Limits.{most_cells}
use Rattle.c_tree.specs.Tree.{CType, void, integer, pointer, array, struct, function}

abbrev pub text_seen : Option (Bor (List ℕ)) → Option (List ℕ)
text_seen None = None
text_seen (Some b) = Some b.now

abbrev pub is_unsized : CType → Bool
is_unsized void = false
is_unsized (integer i) = false
is_unsized (pointer t) = false
is_unsized (array t n) = nat_eq n 0
is_unsized (struct s) = false
is_unsized (function t ts) = false

-- an array with so many elements, within the limit on the cells of an object
abbrev pub sized_by_count : (name : ℕ) → CType → (count : ℕ) → Checked CType
sized_by_count name t n = demand (nat_le n most_cells) C13 name (array t n)
