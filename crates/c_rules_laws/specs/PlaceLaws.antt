-- What a unit is typed as doesn't depend on the places of its nodes.
use Rattle.dm_base.specs.declared.mode.Mode.{Mode}
use Rattle.c_tree.specs.Tree.{Program}
use Rattle.c_syntax.specs.Tree.{Items}
use Rattle.c_syntax.specs.Same.{AreSame}
use Rattle.c_rules.specs.Units.{IsTyped}

-- units that are the same apart from places are typed as the same program
abbrev pub UnitsAreTypedAlike : Type 0
UnitsAreTypedAlike = (u v : Items) (m : Mode) (p : Program) → AreSame u v → IsTyped u m p → IsTyped v m p
