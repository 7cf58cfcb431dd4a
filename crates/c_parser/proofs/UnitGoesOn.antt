-- From where items go on past the limits to what an error of nesting says.
use Rattle.std.proofs.Common.{◌≡◌, ◌<◌, ◌⊎◌, ℕ, suc, List, [], ◌∷◌, ◌++◌, length, subst, arith}
use Rattle.dm_base.specs.declared.mode.Mode.{Mode}
use Rattle.c_lexer.specs.declared.token.Token.{Token}
use Rattle.c_syntax.specs.Tree.{Items}
use Rattle.c_syntax.specs.Statements.{ReadsItems}
use Rattle.c_syntax.specs.Limits.{deepest}
use Rattle.c_syntax_printing.specs.Fails.{Meets, at_token, Fails}
use Rattle.c_syntax_printing.specs.Phrases.{within}
use Rattle.c_syntax_printing.specs.Units.{AUnit}
use Rattle.c_syntax_printing.specs.Nodes.{InUnit}
use Rattle.c_syntax_printing.specs.Pairs.{PairInUnit}
use Rattle.c_syntax_printing.specs.Opens.{Opens, DeepUnit}
use Rattle.c_syntax_printing.proofs.UnitFails.{none_within}
use Rattle.c_syntax_printing.proofs.UnitOpens.{unit_goes_on}
use Rattle.c_parser.specs.TooDeep.{NestsTooDeep, nests}

at_a_token : (mode : Mode) (tokens : List Token) (place : ℕ) (before : List Token) (token : Token) (after : List Token) → tokens ≡ before ++ token ∷ after → Fails (AUnit (within 500 (deepest mode))) tokens (token ∷ after) →
    (other : List Token) → Meets (token ∷ after) other → (unit : Items) (reads : ReadsItems 501 unit (before ++ other) []) → InUnit place (suc (deepest mode)) unit ⊎ PairInUnit place reads 500 → NestsTooDeep mode tokens place
at_a_token mode tokens place before token after q f _ (at_token {j = others}) unit reads deep =
    nests before token after q (λ more u w. none_within 500 (deepest mode) tokens before (token ∷ after) f q (token ∷ more) at_token u w.reads w.nested) others unit reads deep

too_deep : (mode : Mode) (tokens : List Token) (place : ℕ) (rest : List Token) → 0 < length rest → Fails (AUnit (within 500 (deepest mode))) tokens rest → Opens (DeepUnit place 500 (deepest mode)) tokens rest → NestsTooDeep mode tokens place
too_deep mode tokens place [] l f o = absurd (omega (arith, l))
too_deep mode tokens place (token ∷ after) l f o = let g = unit_goes_on tokens f.front (token ∷ after) o f.is in at_a_token mode tokens place f.front token after f.is f g.other g.meets g.tree g.reads g.deep

pub unit_nests : (mode : Mode) (n : ℕ) (tokens : List Token) (place : ℕ) (rest : List Token) → n ≡ deepest mode → 0 < length rest → Fails (AUnit (within 500 n)) tokens rest → Opens (DeepUnit place 500 n) tokens rest → NestsTooDeep mode tokens place
unit_nests mode n tokens place rest q l f o = too_deep mode tokens place rest l (subst (λ z. Fails (AUnit (within 500 z)) tokens rest) q f) (subst (λ z. Opens (DeepUnit place 500 z) tokens rest) q o)
