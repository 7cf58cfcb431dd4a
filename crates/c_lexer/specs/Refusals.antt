-- Where the tokens of a text can't go on, and why.
use Rattle.std.specs.Prelude.{◌≡◌, ◌≢◌, ◌⊎◌, ◌≤◌, ◌<◌, ℕ, Bool, List, [], ◌∷◌, ◌++◌, Contains, length, take, drop, None, Any}
use Rattle.dm_base.specs.declared.mode.Mode.{Mode}
use Rattle.c_lexer.specs.declared.token.TokenKind.{TokenKind}
use Rattle.c_lexer.specs.declared.token.Token.{Token}
use Rattle.c_lexer.specs.declared.error.Cause.{Cause}
use Rattle.c_lexer.specs.declared.error.Cause.TheVariants.{ForeignByte, OpenComment, Malformed, TooLarge, NoLineMarker, ExcludedKeyword}
use Rattle.c_lexer.specs.declared.error.LexError.{LexError}
use Rattle.c_lexer.specs.declared.error.LexError.TheVariants.{OutOfMemory, At}
use Rattle.c_lexer.specs.Codes.{code_of}
use Rattle.c_lexer.specs.Words.{excluded_keywords, IsWord, IsNumber}
use Rattle.c_lexer.specs.Literals.{IsLongest, IsConstant, type_of, IsCharacter, IsString}
use Rattle.c_lexer.specs.Kinds.{Spells}
use Rattle.c_lexer.specs.TokenSpelling.{longest_text, BeginsBlockComment, HasEndAfter, IsWhite, IsToken, Stand, SpellsFrom, SpellsTokens}

-- no token's text begins with the byte
abbrev pub BeginsNoToken : ℕ → Type 0
BeginsNoToken b = (kind : TokenKind) (w : List ℕ) → Spells kind (b ∷ w) → ⊥

-- the longest front of the text that P holds of
abbrev pub IsWhole : (List ℕ → Type 0) → List ℕ → List ℕ → Type 0
IsWhole P w i = (rest : List ℕ) × IsLongest P w i rest

-- a number that is taken whole is no integer constant
abbrev pub IsMalformedNumber : List ℕ → Type 0
IsMalformedNumber i = (w : List ℕ) × IsWhole IsNumber w i × ((n : ℕ) (decimal suffixed : Bool) → IsConstant w n decimal suffixed → ⊥)

-- a quote begins no literal
abbrev pub IsMalformedCharacter : List ℕ → Type 0
IsMalformedCharacter i = (rest : List ℕ) × (i ≡ 39 ∷ rest) × ((w after : List ℕ) (v : ℕ) → i ≡ w ++ after → IsCharacter w v → ⊥)

abbrev pub IsMalformedString : List ℕ → Type 0
IsMalformedString i = (rest : List ℕ) × (i ≡ 34 ∷ rest) × ((w after vs : List ℕ) → i ≡ w ++ after → IsString w vs → ⊥)

-- a word that is taken whole is too long for a name
abbrev pub IsLongWord : List ℕ → Type 0
IsLongWord i = (w : List ℕ) × IsWhole IsWord w i × (63 < length w)

-- an integer constant has no type that holds its number (C99 6.4.4.1 paragraph 6)
abbrev pub IsLargeNumber : List ℕ → Type 0
IsLargeNumber i = (w : List ℕ) × (n : ℕ) × (decimal : Bool) × (suffixed : Bool) × IsWhole IsNumber w i × IsConstant w n decimal suffixed × (type_of decimal suffixed n ≡ None)

-- an element of a literal has a value above 255 (C99 6.4.4.4 paragraph 9)
abbrev pub HasLargeElement : List ℕ → Type 0
HasLargeElement i = (w : List ℕ) × (after : List ℕ) × (vs : List ℕ) × (i ≡ w ++ after) × (IsString w vs ⊎ ((v : ℕ) × (vs ≡ v ∷ []) × IsCharacter w v)) × Any (λ v. 255 < v) vs

-- the cause holds where the text i begins
abbrev pub Holds : Cause → List ℕ → Type 0
Holds ForeignByte i = (b : ℕ) × (rest : List ℕ) × (i ≡ b ∷ rest) × (b ≢ 35) × BeginsNoToken b
Holds OpenComment i = BeginsBlockComment i × ((front : List ℕ) → HasEndAfter front (drop 2 i) → ⊥)
Holds Malformed i = IsMalformedNumber i ⊎ (IsMalformedCharacter i ⊎ (IsMalformedString i ⊎ IsLongWord i))
Holds TooLarge i = IsLargeNumber i ⊎ HasLargeElement i
Holds NoLineMarker i = (rest : List ℕ) × (i ≡ 35 ∷ rest)
Holds ExcludedKeyword i = (w : List ℕ) × IsWhole IsWord w i × Contains excluded_keywords w

-- The place is the first one at which the text doesn't go on: what stands before it is white space and tokens, and there
-- stands neither a piece of white space nor a token.
pub record Stops (text : List ℕ) (p : ℕ) : Type 0 where
  pub tokens : List Token
  pub before : SpellsFrom text 0 p tokens
  pub within : p < length text
  pub no_white : (w : List ℕ) (q : ℕ) → Stand text w p q → IsWhite (take p text) w (drop q text) → ⊥
  pub no_token : (w : List ℕ) (q : ℕ) (kind : TokenKind) → Stand text w p q → IsToken kind w (drop q text) → ⊥

-- the text stops at the place by the cause, and no cause with a lower number holds there
pub record StopsBy (text : List ℕ) (cause : Cause) (p : ℕ) : Type 0 where
  pub stops : Stops text p
  pub holds : Holds cause (drop p text)
  pub least : (other : Cause) → code_of other < code_of cause → Holds other (drop p text) → ⊥

-- the text is longer than the mode allows
pub record IsTooLong (text : List ℕ) (mode : Mode) (code place : ℕ) : Type 0 where
  pub long : longest_text mode < length text
  pub is_code : code ≡ 7
  pub is_place : place ≡ longest_text mode

-- the text is not too long, and stops at the place by the cause of the code
pub record IsStopped (text : List ℕ) (mode : Mode) (code place : ℕ) : Type 0 where
  pub short : length text ≤ longest_text mode
  pub cause : Cause
  pub is_code : code ≡ code_of cause
  pub stops : StopsBy text cause place

-- what an error says of a text
abbrev pub IsRefused : List ℕ → Mode → LexError → Type 0
IsRefused text mode OutOfMemory = Unit {0}
IsRefused text mode (At code place) = IsTooLong text mode code place ⊎ IsStopped text mode code place

-- no tokens are those of the text
abbrev pub HasNoTokens : List ℕ → Mode → LexError → Type 0
HasNoTokens text mode OutOfMemory = Unit {0}
HasNoTokens text mode (At code place) = (tokens : List Token) → SpellsTokens text mode tokens → ⊥
