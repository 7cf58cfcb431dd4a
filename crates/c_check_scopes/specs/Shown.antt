-- What a table of structs shows.
use Rattle.std.specs.Prelude.{List, map, Option, Some, None, option_map}
use Rattle.std.specs.Borrow.{Bor}
use Rattle.c_tree.specs.Tree.{CType}
use Rattle.c_check_scopes.specs.declared.structs.StructMember.{StructMember}
use Rattle.c_check_scopes.specs.declared.structs.Defined.{Defined}
use Rattle.c_check_scopes.specs.Known.{Known, type_of}

abbrev pub known_of : StructMember → Known
known_of m = record { name = m.name.now; ctype = m.ctype }

abbrev pub knowns_of : List StructMember → List Known
knowns_of ms = map known_of ms

-- the types of members
abbrev pub members_types : List StructMember → List CType
members_types ms = map type_of (knowns_of ms)

abbrev pub defined_members : Defined → List Known
defined_members d = knowns_of d.members.items

abbrev pub shown : List (Option Defined) → List (Option (List Known))
shown structs = map (option_map defined_members) structs

-- members that were looked up
abbrev pub defined_in : Option (Bor (List StructMember)) → Option (List Known)
defined_in None = None
defined_in (Some ms) = Some (knowns_of ms.now)
