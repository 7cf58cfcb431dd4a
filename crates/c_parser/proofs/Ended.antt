-- Where readings end.
use Rattle.std.proofs.Common.{◌≡◌, List, ◌∷◌, subst}
use Rattle.c_lexer.specs.declared.token.Token.{Token}
pub use Rattle.c_syntax.proofs.BackTokens.{ends as reads_to, ends_at}

-- two equations in a row
pub after_token : {t : Token} {i j k : List Token} → i ≡ t ∷ j → j ≡ k → i ≡ t ∷ k
after_token {t} {i} q p = subst (λ z. i ≡ t ∷ z) p q
