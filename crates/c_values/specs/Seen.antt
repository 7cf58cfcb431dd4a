-- Memory as the code holds it, as the objects that there are.
use Rattle.std.specs.Prelude.{ℕ, Bool, ◌&&◌, nat_eq, Option, None, Some}
use Rattle.std.specs.HashMap.{get}
use Rattle.c_values.specs.declared.held.Held.{Held}
use Rattle.c_values.specs.declared.memory.Memory.{Memory}
use Rattle.c_values.specs.Memory.{Object, Objects}

-- whether two keys of the table are the same
abbrev pub same_key : ℕ × ℕ → ℕ × ℕ → Bool
same_key a b = nat_eq a.0 b.0 && nat_eq a.1 b.1

-- an entry of the table, as the object that there is
abbrev pub as_object : Option Held → Option Object
as_object None = None
as_object (Some h) = Some (record { cells = h.cells.items; string = h.string })

-- the objects that there are, by their names
abbrev pub seen : Memory → Objects
seen m x = as_object (get same_key m.objects (x.activation, x.variable))
