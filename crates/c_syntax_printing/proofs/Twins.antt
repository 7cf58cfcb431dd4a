-- Lists with a common front.
use Rattle.std.proofs.Common.{List, ◌∷◌}
use Rattle.c_lexer.specs.declared.token.Token.{Token}
use Rattle.c_syntax_printing.specs.Twins.{Twin, here, along}

pub glue : {r s i k a b : List Token} → Twin r s i k → Twin i k a b → Twin r s a b
glue p here = p
glue p (along q) = along (glue p q)

-- one token more belongs to the front
pub after : {t : Token} {r s a b : List Token} → Twin (t ∷ r) (t ∷ s) a b → Twin r s a b
after q = glue (along here) q

pub after_two : {t u : Token} {r s a b : List Token} → Twin (t ∷ u ∷ r) (t ∷ u ∷ s) a b → Twin r s a b
after_two q = glue (along (along here)) q

pub after_three : {t u v : Token} {r s a b : List Token} → Twin (t ∷ u ∷ v ∷ r) (t ∷ u ∷ v ∷ s) a b → Twin r s a b
after_three q = glue (along (along (along here))) q
