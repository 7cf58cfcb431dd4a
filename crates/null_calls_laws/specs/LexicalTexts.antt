-- The law on what stands in an instrumented unit (C99 6.4.4, 6.4.5).
use Rattle.dm_base.specs.declared.mode.Mode.TheVariants.{Plain}
use Rattle.c_tree.specs.Tree.{Program}
use Rattle.c_syntax.specs.Tree.{Items}
use Rattle.c_rules.specs.Units.{IsTyped}
use Rattle.null_calls_laws.specs.Instrumented.{instrumented_unit}
use Rattle.null_calls_laws.specs.Lexical.{IsUnitLexical}

-- With null calls round its marked calls, a typed unit whose constants are in range, whose strings are no longer than a text, and whose
-- commas, structs and functions have what texts give them, is such a unit too.
abbrev pub InstrumentedUnitsAreLexical : Type 0
InstrumentedUnitsAreLexical = (u : Items) (p : Program) → IsUnitLexical u → IsTyped u Plain p → IsUnitLexical (instrumented_unit p u)
