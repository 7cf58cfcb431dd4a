-- The types of system calls and null calls, as a table has them: what a prototype gives and takes (C99 6.7.5.3).
use Rattle.std.specs.Prelude.{List, [], ◌∷◌}
use Rattle.c_tree.specs.Tree.{CType, void, function, CTypes, no_types, more_types}
use Rattle.c_tree.specs.Functions.{int, unsigned_int, char_pointer}
use Rattle.c_tree.specs.declared.prototypes.Prototype.{Prototype}
use Rattle.c_tree.specs.declared.prototypes.PrototypeType.{PrototypeType}
use Rattle.c_tree.specs.declared.prototypes.PrototypeType.TheVariants.{Void, Int, Uint, CharPointer}

abbrev pub type_meant : PrototypeType → CType
type_meant Void = void
type_meant Int = int
type_meant Uint = unsigned_int
type_meant CharPointer = char_pointer

abbrev pub types_meant : List PrototypeType → CTypes
types_meant [] = no_types
types_meant (t ∷ ts) = more_types (type_meant t) (types_meant ts)

abbrev pub prototype_type : Prototype → CType
prototype_type p = function (type_meant p.gives) (types_meant p.takes.now)
