-- Units (6.9): what a unit is typed as, and which demands on it fail.
use Rattle.std.specs.Prelude.{◌≡◌, ℕ, ◌^◌, Bool, true, false, not, ◌&&◌, List, [], ◌∷◌, ◌++◌, map, length, if◌then◌else◌, Option, Some, None, unwrap_or, Contains, codes, nat_lt}
use Rattle.c_tree.specs.Mode.{Mode}
use Rattle.c_tree.specs.Tree.{Static, Program}
use Rattle.c_tree.specs.Functions.{int, of_none}
use Rattle.c_syntax.specs.Tree.{Storage, Parts, no_parts, more_parts, Decl, decl, Item, decl_item, function_item, Items, no_items, more_items}
use Rattle.c_rules.specs.Checked.{Checked, fine, faults, demand, on, Met, met}
use Rattle.c_rules.specs.Codes.{C9, C13}
use Rattle.c_rules.specs.Names.{Name, number_among, each_once}
use Rattle.c_rules.specs.Types.{same_type}
use Rattle.c_rules.specs.Scopes.{Env, Binding, Meaning, a_function, Whole, empty_env, binding_of, layout_of, nothing_before}
use Rattle.c_rules.specs.PrimaryExpressions.{string_type}
use Rattle.c_rules.specs.Initialisers.{typed_char, value_of_cell}
use Rattle.c_rules.specs.Declarators.{name_of}
use Rattle.c_rules.specs.Tags.{tags_of_items}
use Rattle.c_rules.specs.Variables.{name_or_empty}
use Rattle.c_rules.specs.Functions.{declares_function}
use Rattle.c_rules.specs.Items.{Output, defines, items, behind_items, after_items}

-- ## What is known of the whole unit from its syntax

-- the names of the functions that are defined, in order
abbrev pub functions_of_item : Item → List Name
functions_of_item (function_item at class s d body) = name_or_empty (name_of d) ∷ []
functions_of_item i = []

abbrev pub functions_of : Items → List Name
functions_of no_items = []
functions_of (more_items i is) = functions_of_item i ++ functions_of is

-- the names of the static objects that are defined, in order
abbrev pub objects_of_parts : Storage → Parts → List Name
objects_of_parts class no_parts = []
objects_of_parts class (more_parts d m ps) =
    if not (declares_function d) && defines class m then name_or_empty (name_of d) ∷ objects_of_parts class ps else objects_of_parts class ps

abbrev pub objects_of_decl : Decl → List Name
objects_of_decl (decl at class s ps) = objects_of_parts class ps

abbrev pub objects_of_item : Item → List Name
objects_of_item (decl_item at d) = objects_of_decl d
objects_of_item i = []

abbrev pub objects_of : Items → List Name
objects_of no_items = []
objects_of (more_items i is) = objects_of_item i ++ objects_of is

-- The tags of structs in the order of their numbers: that in which they first stand in the unit, where the instrumenter's declarations are
-- left aside, and then those that stand in such declarations alone.
abbrev pub tags_of : Items → List Name
tags_of u = each_once [] (tags_of_items true u ++ tags_of_items false u)

abbrev pub whole_of : Mode → Items → Whole
whole_of m u = record { mode = m; functions = functions_of u; objects = objects_of u; tags = tags_of u }

-- ## The unit

-- before all items, and behind them
abbrev pub env_before : Mode → Items → Env
env_before m u = empty_env (whole_of m u)

abbrev pub env_behind : Mode → Items → Env
env_behind m u = behind_items (env_before m u) nothing_before u

-- the strings that the program holds
abbrev pub strings_of : Mode → Items → List (List ℕ)
strings_of m u = (after_items (env_before m u) nothing_before u).strings

-- int main(void) is defined (5.1.2.2.1)
abbrev pub is_main_meant : Meaning → Bool
is_main_meant (a_function t defined) = defined && same_type t (of_none int)
is_main_meant m = false

abbrev pub is_main_bound : Option Binding → Bool
is_main_bound None = false
is_main_bound (Some b) = is_main_meant b.means

abbrev pub has_main : Mode → Items → Bool
has_main m u = is_main_bound (binding_of (env_behind m u) (codes "main"))

-- a string as a static array (6.4.5 paragraph 5)
abbrev pub static_string : List ℕ → Static
static_string w = record { ctype = string_type (length w); cells = map value_of_cell (map typed_char (w ++ 0 ∷ [])); string = true }

abbrev pub program_of : Mode → Items → Output → Program
program_of m u p = record {
  structs = layout_of (env_behind m u);
  functions = p.functions;
  main = unwrap_or (number_among (functions_of u) (codes "main")) 0;
  statics = p.statics ++ map static_string (strings_of m u);
}

-- The functions, the static objects and the structs of a unit have numbers below 2^31. No text within the limit on its length has as many.
abbrev pub few_names : Items → Checked Met
few_names u =
    demand (nat_lt (length (functions_of u)) (2 ^ 31) && (nat_lt (length (objects_of u)) (2 ^ 31) && nat_lt (length (tags_of u)) (2 ^ 31))) C13 0 met

-- the program that a unit is typed as, or the demands on it that fail
abbrev pub checked : Items → Mode → Checked Program
checked u m = on (few_names u) (λ _. on (items (env_before m u) nothing_before u) (λ p. demand (has_main m u) C9 0 (program_of m u p)))

-- the unit is typed as the program: no demand on it fails
abbrev pub IsTyped : Items → Mode → Program → Type 0
IsTyped u m p = checked u m ≡ fine p

-- a demand with this code fails at this place
abbrev pub IsViolated : Items → Mode → (code at : ℕ) → Type 0
IsViolated u m code at = Contains (faults (checked u m)) (record { code = code; at = at })
