-- A unit as a relation between lists of tokens: it ends where they do.
use Rattle.std.specs.Prelude.{◌≡◌, List, ℕ, []}
use Rattle.c_lexer.specs.declared.token.Token.{Token}
use Rattle.c_syntax.specs.Tree.{Items}
use Rattle.c_syntax.specs.Statements.{ReadsItems}
use Rattle.c_syntax.specs.Limits.{height_of_unit}
use Rattle.c_syntax_printing.specs.Phrases.{Bound, Fits}

pub record AUnit (b : Bound) (i j : List Token) : Type 0 where
  pub depth : ℕ
  pub tree : Items
  pub reads : ReadsItems depth tree i j
  pub ends : j ≡ []
  pub fits : Fits b depth (height_of_unit tree)
