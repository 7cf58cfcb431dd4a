-- Names as their bytes.
use Rattle.std.specs.Prelude.{ℕ, List, map, Option, Some, None}
use Rattle.std.specs.Borrow.{Bor}
use Rattle.c_syntax.specs.declared.tree.Ident.{Ident as Named}
use Rattle.c_syntax.specs.Tree.{Ident}
use Rattle.c_syntax.specs.View.{ident_of}

abbrev pub bytes_of : Bor (List ℕ) → List ℕ
bytes_of b = b.now

abbrev pub seen : List (Bor (List ℕ)) → List (List ℕ)
seen names = map bytes_of names

-- a name that may be there
abbrev pub ident_seen : Option (Bor Named) → Option Ident
ident_seen None = None
ident_seen (Some x) = Some (ident_of x.now)
