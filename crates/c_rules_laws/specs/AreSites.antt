-- The law that the call expressions of a unit are the sites of the program that it is typed as.
use Rattle.std.specs.Prelude.{◌≡◌, ℕ, List, map, flat_map, length}
use Rattle.dm_base.specs.declared.mode.Mode.{Mode}
use Rattle.c_syntax.specs.Tree.{Items}
use Rattle.c_tree.specs.Sites.{sites_of_function, sites_of_program}
use Rattle.c_tree.specs.Tree.{Function, Program}
use Rattle.c_rules.specs.Units.{IsTyped}
use Rattle.c_rules.specs.CallPlaces.{CallPlace, call_places}

abbrev pub caller_of : CallPlace → List ℕ
caller_of c = c.caller

-- the name of the function, once for each site in it
abbrev pub callers_of_function : Function → List (List ℕ)
callers_of_function f = map (λ site. f.name) (sites_of_function f)

-- the names of the functions in which the sites of a program stand, site by site
abbrev pub callers_of_program : Program → List (List ℕ)
callers_of_program p = flat_map callers_of_function p.functions

-- the call expressions of the unit are the sites of the program: as many, and in turn in the same functions
pub record AreSitesOf (u : Items) (p : Program) : Type 0 where
  pub callers : map caller_of (call_places u) ≡ callers_of_program p
  pub count : length (call_places u) ≡ length (sites_of_program p)

-- so it is for each unit that is typed as the program
abbrev pub CallExpressionsAreSites : Type 0
CallExpressionsAreSites = (u : Items) (m : Mode) (p : Program) → IsTyped u m p → AreSitesOf u p
