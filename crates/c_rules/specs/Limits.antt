-- The limits of a unit (5.2.4.1).
use Rattle.std.specs.Prelude.{ℕ}
use Rattle.c_tree.specs.Mode.{Mode}
use Rattle.c_tree.specs.Mode.TheVariants.{Plain, Instrumented}

-- functions that are declared or defined; an instrumented unit has the two null calls beside those of the plain one
abbrev pub most_functions : Mode → ℕ
most_functions Plain = 4096
most_functions Instrumented = 4098

-- call expressions
abbrev pub most_calls : Mode → ℕ
most_calls Plain = 10000
most_calls Instrumented = 30000

-- cells of the variables of one function, its parameters among them
abbrev pub most_local_cells : Mode → ℕ
most_local_cells Plain = 65536
most_local_cells Instrumented = 262144

-- cells of one object, of one struct, or of one type name under sizeof
abbrev pub most_cells : ℕ
most_cells = 65536

-- cells of the static objects and the strings of a unit
abbrev pub most_static_cells : ℕ
most_static_cells = 1048576

-- members of a struct
abbrev pub most_members : ℕ
most_members = 256

-- parameters of a function
abbrev pub most_parameters : ℕ
most_parameters = 16

-- pointers, arrays, functions and parameters in a type
abbrev pub most_parts : ℕ
most_parts = 64
