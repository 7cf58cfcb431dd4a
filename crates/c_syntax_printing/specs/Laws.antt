-- Units whose tokens some text spells are printed as texts that are read back.
use Rattle.std.specs.Prelude.{◌≤◌, List, length}
use Rattle.dm_base.specs.declared.mode.Mode.{Mode}
use Rattle.c_lexer.specs.declared.token.Token.{Token}
use Rattle.c_syntax.specs.Tree.{Items}
use Rattle.c_syntax.specs.Limits.{height_of_unit}
use Rattle.c_syntax.specs.Text.{unit_text}
use Rattle.c_syntax.specs.Spelling.{SpellsUnit, IsUnit, IsReadAs}
use Rattle.c_syntax_printing.specs.FineUnits.{AreSomeItems}
use Rattle.c_syntax_printing.specs.Writable.{AreWritableItems}

-- a unit that tokens spell is writable
abbrev pub SpelledUnitsAreWritable : Type 0
SpelledUnitsAreWritable = (u : Items) (tokens : List Token) (m : Mode) → SpellsUnit u tokens m → AreWritableItems u

-- a writable unit of the grammar's forms (its operators are operators, its lists have the members that they need), within the widest limit
-- of depth, is printed as a text whose tokens spell a unit that is the same apart from places, where the text is no longer than 16 MiB
abbrev pub WritableUnitsAreReadBack : Type 0
WritableUnitsAreReadBack =
    (u : Items) → AreSomeItems u → AreWritableItems u → height_of_unit u ≤ 500 → length (unit_text u) ≤ 16777216 → IsReadAs (unit_text u) u

-- such a unit is one that some tokens spell, whatever the length of its text
abbrev pub WritableUnitsAreUnits : Type 0
WritableUnitsAreUnits = (u : Items) → AreSomeItems u → AreWritableItems u → height_of_unit u ≤ 500 → IsUnit u
