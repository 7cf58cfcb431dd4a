-- Declared objects (6.7): their types, and what their names mean.
use Rattle.std.specs.Prelude.{ℕ, zero, suc, List, length, Option, Some, nat_le}
use Rattle.c_tree.specs.declared.value.IntType.TheVariants.{Char}
use Rattle.c_tree.specs.Tree.{CType, integer, array}
use Rattle.c_tree.specs.Layout.{cells}
use Rattle.c_syntax.specs.Tree.{Ident, Spec, Declarator, Init, one, list, MaybeInit, no_init, an_init}
use Rattle.c_rules.specs.Checked.{Checked, fine, fault, demand, on}
use Rattle.c_rules.specs.Codes.{C13, C14}
use Rattle.c_rules.specs.Limits.{most_cells}
use Rattle.c_rules.specs.Scopes.{Env, layout_of}
use Rattle.c_rules.specs.Conversions.{complete}
use Rattle.c_rules.specs.Declarators.{place_or}
use Rattle.c_rules.specs.Expressions.{type_declared}
use Rattle.c_rules.specs.Initialisers.{count_inits, text_of, text_fits}

-- the type of an object, and the type that it has within its own initialiser
pub record Object : Type 0 where
  pub seen : CType
  pub whole : CType

-- the size that one expression gives to an array: a string that of an array of char (6.7.8 paragraphs 14 and 22)
abbrev pub sized_by_one : (at : ℕ) → CType → Option (List ℕ) → Checked CType
sized_by_one at (integer Char) (Some w) = fine (array (integer Char) (suc (length w)))
sized_by_one at t text = fault C14 at

-- a list gives it one element for each of its initialisers (6.7.8 paragraph 22), each of which has a cell
abbrev pub sized_by_init : (name : ℕ) → CType → Init → Checked CType
sized_by_init name t (one at e) = on (text_fits at (text_of e)) (λ _. sized_by_one at t (text_of e))
sized_by_init name t (list at is) = demand (nat_le (count_inits is) most_cells) C13 name (array t (count_inits is))

-- an array without a size has an initialiser
abbrev pub sized_by : (name : ℕ) → CType → MaybeInit → Checked CType
sized_by name t no_init = fault C14 name
sized_by name t (an_init i) = sized_by_init name t i

-- the type of an object; an array without a size has the size 0 until here
abbrev pub with_size : (name : ℕ) → MaybeInit → CType → Checked CType
with_size name m (array t zero) = sized_by name t m
with_size name m t = fine t

-- an object of known size (6.7 paragraph 7) with few cells
abbrev pub of_known_size : Env → (place name : ℕ) → CType → Checked CType
of_known_size env place name t =
    on (complete env place t) (λ _. demand (nat_le (cells (layout_of env) t) most_cells) C13 name t)

-- the object that has the type that its declarator gives
abbrev pub object_of : Env → (place name : ℕ) → MaybeInit → CType → Checked Object
object_of env place name m t =
    on (with_size name m t) (λ u. on (of_known_size env place name u) (λ w. fine (record { seen = t; whole = w })))

-- the object that a declarator with this name declares
abbrev pub object_declared : Env → (at : ℕ) → Spec → Declarator → Ident → MaybeInit → Checked Object
object_declared env at s d x m = on (type_declared env at s d) (object_of env (place_or at d) x.at m)
