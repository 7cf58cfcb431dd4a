-- Texts that the profile accepts.
use Rattle.std.specs.Prelude.{ℕ, List}
use Rattle.c_tree.specs.Mode.{Mode}
use Rattle.c_syntax.specs.Token.{Token}
use Rattle.c_syntax.specs.TokenSpelling.{SpellsTokens}
use Rattle.c_syntax.specs.Tree.{Items}
use Rattle.c_syntax.specs.Spelling.{SpellsUnit}
use Rattle.c_tree.specs.Tree.{Program}
use Rattle.c_rules.specs.Units.{IsTyped}

-- the bytes are spelled by tokens that spell a unit which is typed as the program
pub record IsAcceptedAs (bytes : List ℕ) (mode : Mode) (p : Program) : Type 0 where
  pub tokens : List Token
  pub unit : Items
  pub lexed : SpellsTokens bytes mode tokens
  pub spelled : SpellsUnit unit tokens mode
  pub typed : IsTyped unit mode p
