-- The members of structs.
use Rattle.std.specs.Prelude.{ℕ, List, map, Option, option_map}
use Rattle.c_tree.specs.declared.tree.CType.{CType as TypeTree}
use Rattle.c_tree.specs.Tree.{CType}
use Rattle.c_tree.specs.Layout.{Structs}
use Rattle.c_tree.specs.View.{ctype_of}

-- the name and the type of a member
pub record Known : Type 0 where
  pub name : List ℕ
  pub ctype : TypeTree

abbrev pub type_of : Known → CType
type_of k = ctype_of k.ctype

-- the structs as the layout of objects has them
abbrev pub layout_of : List (Option (List Known)) → Structs
layout_of structs = map (option_map (map type_of)) structs
