-- What an error of nesting says of a list of tokens: at some token no unit within the limits of the mode goes on, while one past them
-- does (C99 5.2.4.1 leaves such limits to the implementation).
use Rattle.std.specs.Prelude.{◌≡◌, ◌⊎◌, ℕ, suc, List, [], ◌∷◌, ◌++◌}
use Rattle.dm_base.specs.declared.mode.Mode.{Mode}
use Rattle.c_lexer.specs.declared.token.Token.{Token}
use Rattle.c_syntax.specs.Tree.{Items}
use Rattle.c_syntax.specs.Statements.{ReadsItems}
use Rattle.c_syntax.specs.Limits.{deepest, most_pairs}
use Rattle.c_syntax.specs.Spelling.{SpellsUnit}
use Rattle.c_syntax_printing.specs.Nodes.{InUnit}
use Rattle.c_syntax_printing.specs.Pairs.{PairInUnit}

-- No list of tokens that begins with those through the token spells a unit within the limits. Some list that begins so spells a unit
-- past them, in no more than one pair of parentheses too many: at the place begins a counted node that is one too deep, or opens a
-- pair that makes no node inside as many others as are allowed.
pub data NestsTooDeep (mode : Mode) (tokens : List Token) (place : ℕ) : Type 0 where
  nests : (before : List Token) (token : Token) (after : List Token) → tokens ≡ before ++ token ∷ after
      → ((others : List Token) (unit : Items) → SpellsUnit unit (before ++ token ∷ others) mode → ⊥)
      → (others : List Token) (unit : Items) (reads : ReadsItems (suc most_pairs) unit (before ++ token ∷ others) [])
      → InUnit place (suc (deepest mode)) unit ⊎ PairInUnit place reads most_pairs → NestsTooDeep mode tokens place
