-- Lists of types that are the same up to a place.
use Rattle.std.proofs.Common.{◌≡◌, ℕ, ◌<◌, List, get_or}
use Rattle.c_tree.specs.declared.tree.CType.{CType as TypeTree}
use Rattle.c_tree.specs.View.{ctype_of}

abbrev pub SameBelow : List TypeTree → List TypeTree → ℕ → Type 0
SameBelow ts us n = (k : ℕ) (d e : TypeTree) → k < n → ctype_of (get_or ts k d) ≡ ctype_of (get_or us k e)
