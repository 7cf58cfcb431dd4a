-- The call expressions of a unit, each with the function in which it stands. An initialiser at file scope is constant, so no call is evaluated in
-- one (6.7.8 paragraph 4).
use Rattle.std.specs.Prelude.{ℕ, List, [], ◌++◌, map}
use Rattle.c_syntax.specs.Tree.{Declarator, nothing, named, pointer, array, function}
use Rattle.c_syntax.specs.Tree.{Item, struct_item, enum_item, tag_item, decl_item, function_item, Items, no_items, more_items}
use Rattle.c_rules.specs.PlacesOfCalls.{places_of_stmt}

-- a call expression: the name of the function in whose body it stands, and the place of its first byte
pub record CallPlace : Type 0 where
  pub caller : List ℕ
  pub at : ℕ

abbrev pub called_in : (caller : List ℕ) → (at : ℕ) → CallPlace
called_in caller at = record { caller = caller; at = at }

-- the name that a declarator declares (6.7.5); the empty name where none stands
abbrev pub declared_name : Declarator → List ℕ
declared_name nothing = []
declared_name (named at x) = x.name
declared_name (pointer at d) = declared_name d
declared_name (array at d size) = declared_name d
declared_name (function at d ps) = declared_name d

-- those of an item, in order
abbrev pub call_places_of_item : Item → List CallPlace
call_places_of_item (struct_item at x ms) = []
call_places_of_item (enum_item at x es) = []
call_places_of_item (tag_item at x) = []
call_places_of_item (decl_item at d) = []
call_places_of_item (function_item at class s d body) = map (called_in (declared_name d)) (places_of_stmt body)

-- those of a unit, in order: the n-th, counted from 0, is the site n
abbrev pub call_places : Items → List CallPlace
call_places no_items = []
call_places (more_items i is) = call_places_of_item i ++ call_places is
