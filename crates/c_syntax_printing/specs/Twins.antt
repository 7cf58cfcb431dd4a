-- Lists with a common front.
use Rattle.std.specs.Prelude.{◌≡◌, List, ◌∷◌}
use Rattle.c_lexer.specs.declared.token.Token.{Token}
use Rattle.c_syntax.specs.Tokens.{place}

-- the lists are the same tokens, and then r and s
pub data Twin (r s : List Token) : List Token → List Token → Type 0 where
  here : Twin r s r s
  along : {t : Token} {i k : List Token} → Twin r s i k → Twin r s (t ∷ i) (t ∷ k)

-- the phrase R from i to j stands also before k
pub record On (R : List Token → List Token → Type 0) (i j k : List Token) : Type 0 where
  pub tokens : List Token
  pub twin : Twin j k i tokens
  pub reads : R tokens k

-- and begins at the same place
pub record OnAt (R : List Token → List Token → Type 0) (i j k : List Token) : Type 0 where
  pub tokens : List Token
  pub twin : Twin j k i tokens
  pub reads : R tokens k
  pub same : place i ≡ place tokens
