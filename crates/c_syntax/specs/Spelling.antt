-- Which tokens spell a unit.
use Rattle.std.specs.Prelude.{ℕ, ◌≤◌, List, []}
use Rattle.c_lexer.specs.Mode.{Mode}
use Rattle.c_lexer.specs.Mode.TheVariants.{Instrumented}
use Rattle.c_lexer.specs.TokenSpelling.{SpellsTokens}
use Rattle.c_syntax.specs.Same.{AreSame}
use Rattle.c_lexer.specs.declared.token.Token.{Token}
use Rattle.c_syntax.specs.Tree.{Items}
use Rattle.c_syntax.specs.Statements.{ReadsItems}
use Rattle.c_syntax.specs.Limits.{deepest, most_pairs, height_of_unit}

-- the tokens spell the unit, whatever the depth of its nodes and the number of parentheses
abbrev pub SpellsAnyDepth : Items → List Token → Type 0
SpellsAnyDepth unit tokens = (d : ℕ) × ReadsItems d unit tokens []

-- the tokens spell the unit within the limits of the mode: no node is too deep, and no token stands in too many pairs of
-- parentheses that make no node
pub record SpellsUnit (unit : Items) (tokens : List Token) (mode : Mode) : Type 0 where
  pub reads : ReadsItems most_pairs unit tokens []
  pub nested : height_of_unit unit ≤ deepest mode

-- some tokens spell, within the widest limits, a unit that is the same apart from places
pub record IsUnit (unit : Items) : Type 0 where
  pub tokens : List Token
  pub other : Items
  pub spelled : SpellsUnit other tokens Instrumented
  pub same : AreSame other unit

-- the tokens of the text spell a unit that is the same apart from places
pub record IsReadAs (text : List ℕ) (unit : Items) : Type 0 where
  pub tokens : List Token
  pub other : Items
  pub lexed : SpellsTokens text Instrumented tokens
  pub spelled : SpellsUnit other tokens Instrumented
  pub same : AreSame other unit
