-- Single cells of an object, which need not be those of an element of an array.
use Rattle.std.specs.Prelude.{ℕ, ◌<◌, Bool, false, List, length, Option, None, Some, slice_set}
use Rattle.c_tree.specs.declared.value.ObjectName.{ObjectName}
use Rattle.c_tree.specs.declared.value.Value.{Value}
use Rattle.c_values.specs.Memory.{Object, Objects, changed}

-- the values of the cells, where there is an object
abbrev pub cells_of : Option Object → Option (List Value)
cells_of None = None
cells_of (Some o) = Some o.cells

-- whether it is the object of a string literal
abbrev pub is_string : Option Object → Bool
is_string None = false
is_string (Some o) = o.string

-- an object with one cell changed
abbrev pub with_cell : ℕ → Value → Option Object → Option Object
with_cell i v None = None
with_cell i v (Some o) = Some (record { cells = slice_set o.cells i v; string = o.string })

-- the cell of the name's object has the value from now on
abbrev pub put : Objects → ObjectName → ℕ → Value → Objects
put m x i v = changed m x (with_cell i v (m x))

-- there is an object, and it has the cell
abbrev pub HasCell : Option Object → ℕ → Type 0
HasCell None i = ⊥
HasCell (Some o) i = i < length o.cells
