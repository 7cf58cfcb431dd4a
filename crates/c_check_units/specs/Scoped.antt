-- Scopes inside others.
use Rattle.std.specs.Prelude.{◌≡◌, ℕ, List, ◌++◌}
use Rattle.c_rules.specs.Scopes.{Binding, Env}

-- more names are declared, and the depth may differ
abbrev pub IsWithin : (inner outer : Env) → Type 0
IsWithin inner outer = (bs : List Binding) × (d : ℕ) × (inner ≡ record outer { names = bs ++ outer.names; depth = d })
