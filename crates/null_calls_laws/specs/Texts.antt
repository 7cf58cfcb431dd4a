-- The law on the instrumented units of texts (C99 5.2.4.1, 6.9; Giffin, Jha and Miller 2004).
use Rattle.std.specs.Prelude.{ℕ, ◌≤◌, List, length}
use Rattle.dm_base.specs.declared.mode.Mode.TheVariants.{Plain}
use Rattle.c_lexer.specs.declared.token.Token.{Token}
use Rattle.c_lexer.specs.TokenSpelling.{SpellsTokens}
use Rattle.c_tree.specs.Tree.{Program}
use Rattle.c_syntax.specs.Tree.{Items}
use Rattle.c_syntax.specs.Spelling.{SpellsUnit, IsUnit, IsReadAs}
use Rattle.c_syntax.specs.Text.{unit_text}
use Rattle.c_rules.specs.Units.{IsTyped}
use Rattle.null_calls_laws.specs.Instrumented.{instrumented_unit}

-- the unit with null calls round the marked calls of a typed unit that a text spells is, apart from places, one that some tokens spell
-- within the widest limits
abbrev pub InstrumentedUnitsAreUnits : Type 0
InstrumentedUnitsAreUnits =
    (text : List ℕ) (tokens : List Token) (u : Items) (p : Program) → SpellsTokens text Plain tokens → SpellsUnit u tokens Plain → IsTyped u Plain p → IsUnit (instrumented_unit p u)

-- and its printed text is read back as the same unit, apart from places, where it has at most 16 MiB
abbrev pub InstrumentedTextsAreReadBack : Type 0
InstrumentedTextsAreReadBack =
    (text : List ℕ) (tokens : List Token) (u : Items) (p : Program) → SpellsTokens text Plain tokens → SpellsUnit u tokens Plain → IsTyped u Plain p
    → length (unit_text (instrumented_unit p u)) ≤ 16777216 → IsReadAs (unit_text (instrumented_unit p u)) (instrumented_unit p u)
