-- The law on the instrumented units of typed units.
use Rattle.std.specs.Prelude.{◌≡◌, ℕ, List}
use Rattle.dm_base.specs.declared.mode.Mode.TheVariants.{Plain, Instrumented}
use Rattle.c_lexer.specs.declared.token.Token.{Token}
use Rattle.c_lexer.specs.TokenSpelling.{SpellsTokens}
use Rattle.sys_table.specs.declared.sys_result.SysResult.{SysResult}
use Rattle.c_tree.specs.Tree.{Program}
use Rattle.c_syntax.specs.Tree.{Items}
use Rattle.c_syntax.specs.Spelling.{SpellsUnit}
use Rattle.c_rules.specs.Units.{IsTyped}
use Rattle.c_meaning.specs.Runs.{run}
use Rattle.null_calls_laws.specs.MarkedRuns.{marked_run}
use Rattle.null_calls_laws.specs.Instrumented.{instrumented_unit}
use Rattle.null_calls_laws.specs.IsWithNullCalls.{IsWithNullCalls}
use Rattle.c_rules_laws.specs.Lexical.{IsUnitLexical}
use Rattle.null_calls_laws.specs.AbstractCasts.{UnitNamesNoType}

-- The unit with null calls round the marked calls of the program that it is typed as is typed too, as this program with null calls round
-- them. The names of types in the unit's casts declare nothing, and its declarations declare something, as those of texts do.
abbrev pub InstrumentedUnitsAreTyped : Type 0
InstrumentedUnitsAreTyped =
    (u : Items) (p : Program) → IsUnitLexical u → UnitNamesNoType u → IsTyped u Plain p → (q : Program) × IsTyped (instrumented_unit p u) Instrumented q × IsWithNullCalls p q

-- So is that of each unit that a text spells, and it runs as the plain program does with null calls at its marked sites.
abbrev pub InstrumentedTextsRunMarked : Type 0
InstrumentedTextsRunMarked =
    (text : List ℕ) (tokens : List Token) (u : Items) (p : Program) → SpellsTokens text Plain tokens → SpellsUnit u tokens Plain → IsTyped u Plain p
    → (q : Program) × IsTyped (instrumented_unit p u) Instrumented q × IsWithNullCalls p q × ((records : List SysResult) (turns : ℕ) → run q records turns ≡ marked_run p records turns)
