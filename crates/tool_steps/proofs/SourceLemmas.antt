-- A text is accepted as one program, or it is refused.
use Rattle.std.proofs.Common.{◌≡◌, ℕ, List, [], Err, refl, sym, ◌∙◌, subst}
use Rattle.dm_base.specs.declared.mode.Mode.{Mode}
use Rattle.c_check.specs.CheckError.{CheckError}
use Rattle.c_check.specs.CheckError.TheVariants as checks
use Rattle.c_check.specs.Refused.{IsRefused}
use Rattle.c_lexer.specs.declared.error.LexError.{LexError}
use Rattle.c_lexer.specs.declared.error.LexError.TheVariants as lexes
use Rattle.c_lexer.specs.declared.token.Token.{Token}
use Rattle.c_lexer.specs.Refusals as lexer
use Rattle.c_lexer.specs.TokenSpelling.{SpellsTokens}
use Rattle.c_lexer.proofs.OneTokenText.{one_reading}
use Rattle.c_parser.specs.declared.error.ParseError.{ParseError}
use Rattle.c_parser.specs.declared.error.ParseError.TheVariants as parses
use Rattle.c_parser.specs.Refused as parser
use Rattle.c_rules.specs.Accepted.{IsAcceptedAs}
use Rattle.c_rules.specs.Checked.{fine}
use Rattle.c_rules.specs.Units.{IsTyped}
use Rattle.c_syntax.specs.Limits.{most_pairs}
use Rattle.c_syntax.specs.Spelling.{SpellsUnit}
use Rattle.c_syntax.specs.Statements.{ReadsItems}
use Rattle.c_syntax.specs.Tree.{Items}
use Rattle.c_syntax.specs.UnitView.{items_of}
use Rattle.c_syntax_printing.proofs.OneUnit.{same_items}
use Rattle.c_tree.specs.Tree.{Program}
use Rattle.c_tree.specs.View.{program_of}
use Rattle.tool_steps.specs.declared.source.Source.{Source}
use Rattle.tool_steps.specs.Errors.{of_lexer, of_parser, of_checker}
use Rattle.tool_steps.specs.Sources.{IsSourceOf, IsSourceCause, HasNoProgram}
use Rattle.c_check.proofs.Texts.{one_program}

-- one list of tokens, one unit, one program

pub one_unit : (d x : ℕ) (one other : Items) (tokens : List Token) → ReadsItems d one tokens [] → ReadsItems x other tokens [] → one ≡ other
one_unit d x one other tokens reads again = (same_items reads again refl refl).0

pub one_typing : (u : Items) (m : Mode) (p q : Program) → IsTyped u m p → IsTyped u m q → p ≡ q
one_typing u m p q typed again =
    let same : fine p ≡ fine q = sym typed ∙ again in
    cc same

-- the program of a text that was read
pub source_accepted : (text : List ℕ) (m : Mode) (source : Source) → IsSourceOf text m source → IsAcceptedAs text m (program_of source.program)
source_accepted text m source is = record { tokens = is.tokens; unit = items_of source.unit.items.items; lexed = is.lexed; spelled = is.spelled; typed = is.typed }

-- the lexer refuses the text

pub lexical_cause : (e : LexError) (text : List ℕ) (m : Mode) → lexer.IsRefused text m e → IsSourceCause (of_lexer e) text m
lexical_cause lexes.OutOfMemory text m refused = tt
lexical_cause (lexes.At code place) text m refused = refused

pub lexical_none : (e : LexError) (text : List ℕ) (m : Mode) → lexer.HasNoTokens text m e → HasNoProgram (of_lexer e) text m
lexical_none lexes.OutOfMemory text m none = λ named p is. named refl
lexical_none (lexes.At code place) text m none = λ named p is. none is.tokens is.lexed

-- the parser refuses its tokens

module _ (text : List ℕ) (m : Mode) (tokens : List Token) (lexed : SpellsTokens text m tokens) where
  pub spelled_cause : (e : ParseError) → parser.IsRefused tokens m e → IsSourceCause (of_parser e) text m
  spelled_cause parses.OutOfMemory refused = tt
  spelled_cause (parses.Syntax place) refused = record { tokens = tokens; lexed = lexed; refused = refused }
  spelled_cause (parses.Nesting place) refused = record { tokens = tokens; lexed = lexed; refused = refused }

  -- the unit of an accepted text is that of these tokens
  same_tokens : (p : Program) → (is : IsAcceptedAs text m p) → SpellsUnit is.unit tokens m
  same_tokens p is = subst (λ (ts : List Token). SpellsUnit is.unit ts m) (one_reading text m is.tokens tokens is.lexed lexed) is.spelled

  pub spelled_none : (e : ParseError) → ((unit : Items) → SpellsUnit unit tokens m → parser.Answers unit (Err e)) → HasNoProgram (of_parser e) text m
  spelled_none parses.OutOfMemory complete = λ named p is. named refl
  spelled_none (parses.Syntax place) complete = λ named p is. complete is.unit (same_tokens p is)
  spelled_none (parses.Nesting place) complete = λ named p is. complete is.unit (same_tokens p is)

  -- the checker refuses its unit

  pub typed_cause : (unit : Items) (e : CheckError) → SpellsUnit unit tokens m → IsRefused unit m e → IsSourceCause (of_checker e) text m
  typed_cause unit checks.OutOfMemory spelled refused = tt
  typed_cause unit (checks.At code place) spelled refused = record { tokens = tokens; unit = unit; lexed = lexed; spelled = spelled; violated = refused.0 }

  pub typed_none : (unit : Items) (e : CheckError) → SpellsUnit unit tokens m → IsRefused unit m e → HasNoProgram (of_checker e) text m
  typed_none unit checks.OutOfMemory spelled refused = λ named p is. named refl
  typed_none unit (checks.At code place) spelled refused = λ named p is.
      let same : is.unit ≡ unit = one_unit most_pairs most_pairs is.unit unit tokens (same_tokens p is).reads spelled.reads in
      refused.1 p (subst (λ (u : Items). IsTyped u m p) same is.typed)

-- a text is accepted as one program
pub accepted_once : (text : List ℕ) (m : Mode) (p q : Program) → IsAcceptedAs text m p → IsAcceptedAs text m q → p ≡ q
accepted_once = one_program one_reading one_unit one_typing
