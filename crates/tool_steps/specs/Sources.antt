-- The C texts in files: what they are read as, and why they are refused.
use Rattle.std.specs.Prelude.{◌≡◌, ◌≢◌, ℕ, List, ◌++◌, Option, IfSome, codes, decimal}
use Rattle.dm_base.specs.declared.mode.Mode.{Mode}
use Rattle.dm_base.specs.declared.verdict.Status.{Status}
use Rattle.dm_base.specs.declared.verdict.Status.TheVariants as statuses
use Rattle.dm_io.specs.Store.{Files, file_at}
use Rattle.c_lexer.specs.declared.error.LexError.TheVariants as lexes
use Rattle.c_lexer.specs.declared.token.Token.{Token}
use Rattle.c_lexer.specs.Refusals as lexer
use Rattle.c_lexer.specs.TokenSpelling.{SpellsTokens}
use Rattle.c_parser.specs.declared.error.ParseError.{ParseError}
use Rattle.c_parser.specs.declared.error.ParseError.TheVariants as parses
use Rattle.c_parser.specs.Refused as parser
use Rattle.c_rules.specs.Accepted.{IsAcceptedAs}
use Rattle.c_rules.specs.Units.{IsTyped, IsViolated}
use Rattle.c_syntax.specs.Spelling.{SpellsUnit}
use Rattle.c_syntax.specs.Tree.{Items}
use Rattle.c_syntax.specs.UnitView.{items_of}
use Rattle.c_tree.specs.Tree.{Program}
use Rattle.c_tree.specs.View.{program_of}
use Rattle.tool_steps.specs.declared.error.SourceError.{SourceError}
use Rattle.tool_steps.specs.declared.error.SourceError.TheVariants.{OutOfMemory, Lexical, Syntax, Nesting, Rule}
use Rattle.tool_steps.specs.declared.source.Source.{Source}

-- tokens spell the text, the unit spells the tokens, and it is typed as the program
pub record IsSourceOf (text : List ℕ) (mode : Mode) (source : Source) : Type 0 where
  pub tokens : List Token
  pub lexed : SpellsTokens text mode tokens
  pub spelled : SpellsUnit (items_of source.unit.items.items) tokens mode
  pub typed : IsTyped (items_of source.unit.items.items) mode (program_of source.program)

-- tokens spell the text, and are refused so
pub record IsMisspelled (text : List ℕ) (mode : Mode) (error : ParseError) : Type 0 where
  pub tokens : List Token
  pub lexed : SpellsTokens text mode tokens
  pub refused : parser.IsRefused tokens mode error

-- tokens spell the text, a unit spells the tokens, and a demand on it with this code fails at this place
pub record Violates (text : List ℕ) (mode : Mode) (code place : ℕ) : Type 0 where
  pub tokens : List Token
  pub unit : Items
  pub lexed : SpellsTokens text mode tokens
  pub spelled : SpellsUnit unit tokens mode
  pub violated : IsViolated unit mode code place

-- why a text is refused in a mode
abbrev pub IsSourceCause : SourceError → List ℕ → Mode → Type 0
IsSourceCause OutOfMemory text mode = Unit {0}
IsSourceCause (Lexical code place) text mode = lexer.IsRefused text mode (lexes.At code place)
IsSourceCause (Syntax place) text mode = IsMisspelled text mode (parses.Syntax place)
IsSourceCause (Nesting place) text mode = IsMisspelled text mode (parses.Nesting place)
IsSourceCause (Rule code place) text mode = Violates text mode code place

-- the text is accepted as no program in the mode, unless memory was refused
abbrev pub HasNoProgram : SourceError → List ℕ → Mode → Type 0
HasNoProgram error text mode = error ≢ OutOfMemory → (p : Program) → IsAcceptedAs text mode p → ⊥

-- the line of a refused text
abbrev pub source_refusal : SourceError → List ℕ
source_refusal OutOfMemory = codes "out of memory\n"
source_refusal (Lexical code place) = codes "source refused L" ++ decimal code ++ codes " at " ++ decimal place ++ codes "\n"
source_refusal (Syntax place) = codes "source refused P1 at " ++ decimal place ++ codes "\n"
source_refusal (Nesting place) = codes "source refused P2 at " ++ decimal place ++ codes "\n"
source_refusal (Rule code place) = codes "source refused C" ++ decimal code ++ codes " at " ++ decimal place ++ codes "\n"

-- the text in the file is refused in the mode, with this status and this line
abbrev pub RefusesSource : Mode → Option Files → List ℕ → Status → List ℕ → Type 0
RefusesSource mode files name status line =
    (error : SourceError) × (error ≢ OutOfMemory) × (status ≡ statuses.SourceRefused) × (line ≡ source_refusal error)
    × IfSome files (λ told. IsSourceCause error (file_at told name) mode × ((p : Program) → IsAcceptedAs (file_at told name) mode p → ⊥))
