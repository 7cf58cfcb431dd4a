-- The program that is made of what is known and what stands before behind all items, and of what they define.
use Rattle.std.specs.Prelude.{ℕ, List, ◌++◌, map}
use Rattle.c_rules.specs.Items.{Output}
use Rattle.c_rules.specs.Scopes.{Env, Before, layout_of}
use Rattle.c_rules.specs.Units.{static_string}
use Rattle.c_tree.specs.declared.tree.Function.{Function as FunctionTree}
use Rattle.c_tree.specs.declared.tree.Static.{Static as StaticTree}
use Rattle.c_tree.specs.Tree.{Program}
use Rattle.c_tree.specs.View.{function_of, static_of}

-- these functions and these static objects
abbrev pub output_of : List FunctionTree → List StaticTree → Output
output_of functions objects = record { functions = map function_of functions; statics = map static_of objects }

-- with this number of main; the strings are static objects behind the others
abbrev pub program_made : Env → Before → Output → (number : ℕ) → Program
program_made env b o number = record { structs = layout_of env; functions = o.functions; main = number; statics = o.statics ++ map static_string b.strings }
