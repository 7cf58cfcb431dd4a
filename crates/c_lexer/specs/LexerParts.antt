-- For private contracts and proofs alone: what the parts of the lexer answer.
use Rattle.std.specs.Prelude.{◌≡◌, ◌≤◌, ◌<◌, ℕ, List, ◌++◌, length, take, drop}
use Rattle.c_lexer.specs.declared.token.Token.{Token}
use Rattle.c_lexer.specs.declared.error.Cause.{Cause}
use Rattle.c_lexer.specs.declared.error.LexError.{LexError}
use Rattle.c_lexer.specs.declared.error.LexError.TheVariants.{OutOfMemory, At}
use Rattle.c_lexer.specs.Codes.{code_of}
use Rattle.c_lexer.specs.TokenSpelling.{SpellsFrom}
use Rattle.c_lexer.specs.Reading.{HasNoWhite, IsMisfit}
use Rattle.c_lexer.specs.Refusals.{StopsBy}

-- a piece was taken that stands at one place and ends at the next, and its tokens were put at the end
pub record Takes (text : List ℕ) (at : ℕ) (old new : List Token) (next : ℕ) : Type 0 where
  pub more : at < next
  pub within : next ≤ length text
  pub added : List Token
  pub is : new ≡ old ++ added
  pub reads : SpellsFrom text at next added

-- neither white space nor a token stands at the place, by the cause of the code
pub record IsStuck (text : List ℕ) (at code place : ℕ) : Type 0 where
  pub cause : Cause
  pub is_code : code ≡ code_of cause
  pub is_place : place ≡ at
  pub no_white : HasNoWhite (take at text) (drop at text)
  pub misfit : IsMisfit cause (drop at text)

-- why nothing was taken at the place
abbrev pub IsStuckAt : List ℕ → ℕ → LexError → Type 0
IsStuckAt text at OutOfMemory = Unit {0}
IsStuckAt text at (At code place) = IsStuck text at code place

-- why a text that is not too long has no tokens
abbrev pub HasStopped : List ℕ → LexError → Type 0
HasStopped text OutOfMemory = Unit {0}
HasStopped text (At code place) = (cause : Cause) × (code ≡ code_of cause) × StopsBy text cause place
