-- Where tokens cannot go on.
use Rattle.std.specs.Prelude.{◌≡◌, List, ◌∷◌, ◌++◌, []}
use Rattle.c_lexer.specs.declared.token.Token.{Token}

-- They begin with one token, or both are at their end.
pub data Meets : List Token → List Token → Type 0 where
  at_end : Meets [] []
  at_token : {t : Token} {i j : List Token} → Meets (t ∷ i) (t ∷ j)

-- The phrase fails at the first token of r, which is a part of i: however the tokens go on after that token, they begin with no
-- such phrase. Where r is empty this says that the tokens themselves begin with none.
pub record Fails (A : List Token → List Token → Type 0) (i r : List Token) : Type 0 where
  pub front : List Token
  pub is : i ≡ front ++ r
  pub none : (s : List Token) → Meets r s → (j : List Token) → A (front ++ s) j → ⊥

-- one phrase and then another
pub data Then (A B : List Token → List Token → Type 0) : List Token → List Token → Type 0 where
  then : {i j k : List Token} → A i j → B j k → Then A B i k

-- one phrase or another
pub data Or (A B : List Token → List Token → Type 0) : List Token → List Token → Type 0 where
  first : {i j : List Token} → A i j → Or A B i j
  second : {i j : List Token} → B i j → Or A B i j

-- a token with the property
pub data One (P : Token → Type 0) : List Token → List Token → Type 0 where
  one : {t : Token} {i : List Token} → P t → One P (t ∷ i) i

-- no token with the property stands first
abbrev pub NotAt : (Token → Type 0) → List Token → Type 0
NotAt P i = (t : Token) (j : List Token) → i ≡ t ∷ j → P t → ⊥
