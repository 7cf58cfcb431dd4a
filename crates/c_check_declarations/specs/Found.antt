-- What a name means that was looked up.
use Rattle.std.specs.Prelude.{Option, Some, None}
use Rattle.std.specs.Borrow.{Bor}
use Rattle.c_rules.specs.Scopes.{Meaning}
use Rattle.c_check_values.specs.Meaning.{Meaning as MeaningTree}
use Rattle.c_check_values.specs.Bound.{meaning_of}

abbrev pub meaning_found : Option (Bor MeaningTree) → Option Meaning
meaning_found None = None
meaning_found (Some m) = Some (meaning_of m.now)
