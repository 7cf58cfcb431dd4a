-- Phrases as parts of a list of tokens.
use Rattle.std.specs.Prelude.{◌≡◌, List, ◌++◌}
use Rattle.c_lexer.specs.declared.token.Token.{Token}

-- the phrase stands at the front of i, before j, and is read there whatever follows it
pub record IsFrontPhrase (R : List Token → List Token → Type 0) (i j : List Token) : Type 0 where
  pub front : List Token
  pub is : i ≡ front ++ j
  pub again : (k : List Token) → R (front ++ k) k
