-- Scopes in which names were declared.
use Rattle.std.specs.Prelude.{◌≡◌, List, ◌++◌}
use Rattle.c_check_counts.specs.Bound.{Bound}
use Rattle.c_check_counts.specs.Environment.{Environment}

-- names were declared, and nothing else changed
abbrev pub Declares : Environment → Environment → Type 0
Declares old new = (inner : List Bound) × (new ≡ record old { names = inner ++ old.names })
