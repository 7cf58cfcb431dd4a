-- Types as declarators make them in this profile (C99 6.7.5): no pointer to an array, no array of arrays, scalars as parameters.
use Rattle.std.specs.Prelude.{◌≤◌}
use Rattle.c_tree.specs.Tree.{CType, void, integer, pointer, array, struct, function, CTypes, no_types, more_types}
use Rattle.c_tree.specs.Layout.{Structs, cells}
use Rattle.c_tree.specs.Operands.{IsScalar, IsResult, IsComplete}
use Rattle.c_rules.specs.Types.{count}

-- no array
abbrev pub NotArray : CType → Type 0
NotArray void = Unit {0}
NotArray (integer i) = Unit {0}
NotArray (pointer t) = Unit {0}
NotArray (array t n) = ⊥
NotArray (struct s) = Unit {0}
NotArray (function t ts) = Unit {0}

module _ (structs : Structs) where
  abbrev mutual
    pub Made : CType → Type 0
    Made void = Unit {0}
    Made (integer i) = Unit {0}
    Made (pointer t) = NotArray t × Made t
    Made (array t n) = NotArray t × IsComplete structs t × Made t
    Made (struct s) = Unit {0}
    Made (function t ts) = IsResult t × (count ts ≤ 16) × Made t × AllMade ts

    pub AllMade : CTypes → Type 0
    AllMade no_types = Unit {0}
    AllMade (more_types t ts) = IsScalar t × Made t × AllMade ts

  -- at most 2^25 cells, so that its size is an unsigned int
  abbrev pub FewCells : CType → Type 0
  FewCells void = Unit {0}
  FewCells (integer i) = Unit {0}
  FewCells (pointer t) = Unit {0}
  FewCells (array t n) = cells structs (array t n) ≤ 33554432
  FewCells (struct s) = Unit {0}
  FewCells (function t ts) = Unit {0}

  pub record IsSized (t : CType) : Type 0 where
    pub made : Made t
    pub few : FewCells t
