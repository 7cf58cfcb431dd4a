-- When a program is another one with null calls round its marked calls.
use Rattle.std.specs.Prelude.{◌≡◌}
use Rattle.c_meaning.specs.Tree.{Program}
use Rattle.null_calls_laws.specs.InstrumentedPrograms.{instrumented_program}
use Rattle.null_calls_laws.specs.WithoutSites.{without_sites}

-- q is p with null calls round its marked calls and with the temporaries of these, whatever the sites in q are
abbrev pub IsWithNullCalls : (p q : Program) → Type 0
IsWithNullCalls p q = without_sites q ≡ instrumented_program p
