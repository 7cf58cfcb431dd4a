-- What `instrument FILE` makes of its file, and why it refuses it (Giffin, Jha and Miller 2004).
use Rattle.std.specs.Prelude.{◌≡◌, ◌⊎◌, ℕ, ◌<◌, ◌≤◌, List, length, Option, IfSome, IsSomeAnd, codes}
use Rattle.dm_base.specs.declared.mode.Mode.TheVariants.{Plain, Instrumented}
use Rattle.dm_base.specs.declared.verdict.Status.{Status}
use Rattle.dm_base.specs.declared.verdict.Status.TheVariants as statuses
use Rattle.dm_io.specs.Store.{Files, file_at}
use Rattle.c_lexer.specs.declared.token.Token.{Token}
use Rattle.c_lexer.specs.TokenSpelling.{SpellsTokens}
use Rattle.c_syntax.specs.Spelling.{SpellsUnit}
use Rattle.c_syntax.specs.Tree.{Items}
use Rattle.c_rules.specs.Accepted.{IsAcceptedAs}
use Rattle.c_rules.specs.Units.{IsTyped}
use Rattle.c_tree.specs.Tree.{Program}
use Rattle.null_calls_laws.specs.InstrumentedTexts.{instrumented_text, DoesAsMarked}
use Rattle.tool_steps.specs.Sources.{RefusesSource}

-- the greatest length of an instrumented text, in bytes: 16 MiB
abbrev pub longest : ℕ
longest = 16777216

-- tokens spell the text in the mode Plain, this unit spells the tokens, and it is typed as this program
pub record IsReading (text : List ℕ) (unit : Items) (program : Program) : Type 0 where
  pub tokens : List Token
  pub lexed : SpellsTokens text Plain tokens
  pub spelled : SpellsUnit unit tokens Plain
  pub typed : IsTyped unit Plain program

-- the text is the instrumented text of the unit, and is accepted as a program that does what the plain one does but for null calls
pub record IsInstrumentedText (unit : Items) (program : Program) (text : List ℕ) : Type 0 where
  pub is : text ≡ instrumented_text program unit
  pub short : length text ≤ longest
  pub accepted : (q : Program) × IsAcceptedAs text Instrumented q × DoesAsMarked program q

-- the file's text is read as a unit that is typed as a program, and the text is their instrumented text
abbrev pub Instruments : Files → List ℕ → List ℕ → Type 0
Instruments files name text = (u : Items) × (p : Program) × IsReading (file_at files name) u p × IsInstrumentedText u p text

-- the line of a text whose instrumented text would be longer than it may be
abbrev pub too_long : List ℕ
too_long = codes "source refused N1\n"

-- the instrumented text would be longer than it may be
abbrev pub IsTooLong : Items → Program → Type 0
IsTooLong u p = longest < length (instrumented_text p u)

-- the text is refused, or its instrumented text would be too long
abbrev pub RefusesToInstrument : Option Files → List ℕ → Status → List ℕ → Type 0
RefusesToInstrument files name status line =
    RefusesSource Plain files name status line
    ⊎ ((status ≡ statuses.SourceRefused) × (line ≡ too_long) × IfSome files (λ told. (u : Items) × (p : Program) × IsReading (file_at told name) u p × IsTooLong u p))

-- the file is told, and its text is accepted and has an instrumented text within the limit
abbrev pub IsReadyToInstrument : Option Files → List ℕ → Type 0
IsReadyToInstrument files name =
    IsSomeAnd files (λ told. (u : Items) × (p : Program) × IsReading (file_at told name) u p × (length (instrumented_text p u) ≤ longest))
