-- What items define, in Rust as in the rules.
use Rattle.std.specs.Prelude.{[], ◌∷◌, map, Option, Some, None}
use Rattle.c_check_units.specs.declared.outputs.Output.{Output as OutputTree}
use Rattle.c_rules.specs.Items.{Output, no_output}
use Rattle.c_tree.specs.declared.tree.Static.{Static as StaticTree}
use Rattle.c_tree.specs.View.{function_of, static_of}

abbrev pub output_of : OutputTree → Output
output_of p = record { functions = map function_of p.functions.items; statics = map static_of p.statics.items }

-- an object that is defined, or none
abbrev pub object_output : Option StaticTree → Output
object_output None = no_output
object_output (Some s) = record { functions = []; statics = static_of s ∷ [] }
