-- The instrumented text of a text, and what it is accepted as (Giffin, Jha and Miller 2004).
use Rattle.std.specs.Prelude.{◌≡◌, ℕ, ◌≤◌, List, length}
use Rattle.dm_base.specs.Trace.{erase}
use Rattle.dm_base.specs.declared.mode.Mode.TheVariants.{Plain, Instrumented}
use Rattle.c_lexer.specs.declared.token.Token.{Token}
use Rattle.c_lexer.specs.TokenSpelling.{SpellsTokens}
use Rattle.c_syntax.specs.Spelling.{SpellsUnit}
use Rattle.c_syntax.specs.Text.{unit_text}
use Rattle.c_syntax.specs.Tree.{Items}
use Rattle.sys_table.specs.declared.sys_result.SysResult.{SysResult}
use Rattle.c_tree.specs.Tree.{Program}
use Rattle.c_rules.specs.Accepted.{IsAcceptedAs}
use Rattle.c_rules.specs.Units.{IsTyped}
use Rattle.c_meaning.specs.NullCalls.{DifferInNullCalls}
use Rattle.c_meaning.specs.Runs.{run}
use Rattle.c_meaning.specs.MarkedRuns.{marked_run}
use Rattle.null_calls_laws.specs.Instrumented.{instrumented_unit}
use Rattle.null_calls_laws.specs.IsWithNullCalls.{IsWithNullCalls}

-- the printed unit with null calls round the marked calls of the program that the unit is typed as
abbrev pub instrumented_text : Program → Items → List ℕ
instrumented_text p u = unit_text (instrumented_unit p u)

-- q is p with null calls round its marked calls, and for all recorded results and bounds of turns it does what p does with null calls at
-- its marked sites: it ends as p, makes the same system calls and writes the same bytes, and without null calls its trace is that of p
pub record DoesAsMarked (p q : Program) : Type 0 where
  pub with_null_calls : IsWithNullCalls p q
  pub runs : (records : List SysResult) (turns : ℕ) → run q records turns ≡ marked_run p records turns
  pub differ : (records : List SysResult) (turns : ℕ) → DifferInNullCalls (run q records turns) (run p records turns)
  pub erased : (records : List SysResult) (turns : ℕ) → erase (run q records turns).trace ≡ (run p records turns).trace

-- the instrumented text of an accepted text is accepted as such a program, where it isn't longer than an instrumented text may be
abbrev pub InstrumentedTextsAreAccepted : Type 0
InstrumentedTextsAreAccepted =
    (text : List ℕ) (tokens : List Token) (u : Items) (p : Program) → SpellsTokens text Plain tokens → SpellsUnit u tokens Plain → IsTyped u Plain p
    → length (instrumented_text p u) ≤ 16777216
    → (q : Program) × IsAcceptedAs (instrumented_text p u) Instrumented q × DoesAsMarked p q
