-- For private contracts and proofs alone: what is called at sites.
use Rattle.std.specs.Prelude.{Bool, true, false, List, [], ◌∷◌, Option, None, Some}
use Rattle.c_tree.specs.Tree.{CType}
use Rattle.c_meaning.specs.Mentions.{Mention, Callee, Direct, Through}
use Rattle.flow_graph.specs.declared.call_sites.Place.{Place}
use Rattle.flow_graph.specs.declared.call_sites.Place.TheVariants.{Function, Pointer}
use Rattle.flow_graph.specs.Types.{first_place}

-- the first where there is one, else the second
abbrev pub first_of : Option Place → Option Place → Option Place
first_of None y = y
first_of (Some x) y = Some x

abbrev pub place_or_none : Bool → Place → Option Place
place_or_none true x = Some x
place_or_none false x = None

-- the function that is called, or the first place of the type of the pointer
abbrev pub placed : List CType → Option Callee → Option Place
placed types None = None
placed types (Some (Direct f)) = Some (Function f)
placed types (Some (Through t)) = Some (Pointer (first_place t types))

abbrev pub single : Mention → List Mention
single m = m ∷ []
