-- For private contracts and proofs alone: what the parts of the reader answer.
use Rattle.std.specs.Prelude.{◌≡◌, ◌≢◌, ◌≤◌, ◌<◌, ℕ, List, [], ◌∷◌, ◌++◌, length, take, drop, Result, Ok, Err, Option, Some, None}
use Rattle.c_lexer.specs.declared.token.TokenKind.{TokenKind}
use Rattle.c_lexer.specs.declared.error.Cause.{Cause}
use Rattle.c_lexer.specs.declared.misfit.Lexeme.{Lexeme}
use Rattle.c_lexer.specs.declared.misfit.Misfit.{Misfit}
use Rattle.c_lexer.specs.declared.misfit.Misfit.TheVariants.{OutOfMemory, By}
use Rattle.c_lexer.specs.Codes.{code_of}
use Rattle.c_lexer.specs.TokenSpelling.{IsBlank, BeginsLineComment, BeginsBlockComment, IsWhite, IsToken}
use Rattle.c_lexer.specs.Refusals.{Holds}

-- something stands first that is neither white space nor begins any
pub record IsClear (i : List ℕ) : Type 0 where
  pub some : i ≢ []
  pub no_blank : (b : ℕ) (rest : List ℕ) → i ≡ b ∷ rest → IsBlank b → ⊥
  pub no_marker : (rest : List ℕ) → i ≡ 35 ∷ rest → ⊥
  pub no_line_comment : BeginsLineComment i → ⊥
  pub no_block_comment : BeginsBlockComment i → ⊥

-- no token stands first, by the cause, and no cause with a lower number holds
pub record IsMisfit (cause : Cause) (i : List ℕ) : Type 0 where
  pub holds : Holds cause i
  pub least : (other : Cause) → code_of other < code_of cause → Holds other i → ⊥
  pub no_token : (kind : TokenKind) (w rest : List ℕ) → i ≡ w ++ rest → IsToken kind w rest → ⊥

-- a token stands first, or none does
abbrev pub ReadsToken : List ℕ → Result Lexeme Misfit → Type 0
ReadsToken i (Ok found) = (found.length ≤ length i) × IsToken found.kind (take found.length i) (drop found.length i)
ReadsToken i (Err OutOfMemory) = Unit {0}
ReadsToken i (Err (By cause)) = IsMisfit cause i

-- the same of a reader that takes no memory
abbrev pub ReadsTokenOrCause : List ℕ → Result Lexeme Cause → Type 0
ReadsTokenOrCause i (Ok found) = ReadsToken i (Ok found)
ReadsTokenOrCause i (Err cause) = IsMisfit cause i

-- no piece of white space stands between the front and i
abbrev pub HasNoWhite : List ℕ → List ℕ → Type 0
HasNoWhite front i = (w rest : List ℕ) → i ≡ w ++ rest → IsWhite front w rest → ⊥

-- a piece of white space stands first; or the text ends, or something stands there that is not white space; or neither white space nor a token stands there
abbrev pub ReadsWhite : List ℕ → List ℕ → Result (Option ℕ) Cause → Type 0
ReadsWhite front i (Ok (Some n)) = (0 < n) × (n ≤ length i) × IsWhite front (take n i) (drop n i)
ReadsWhite front i (Ok None) = HasNoWhite front i × (i ≢ [] → IsClear i)
ReadsWhite front i (Err cause) = HasNoWhite front i × IsMisfit cause i
