-- For private contracts and proofs alone: what statements and items begin with.
use Rattle.std.specs.Prelude.{◌⊎◌, ℕ, List, drop, Option, Some, None}
use Rattle.c_lexer.specs.declared.token.Token.{Token}
use Rattle.c_lexer.specs.declared.keyword.TheConstants.{CASE, DEFAULT, DO, ENUM, FOR, IF, STRUCT, SWITCH, WHILE}
use Rattle.c_lexer.specs.declared.punctuator.TheConstants.{LEFT_BRACE, RIGHT_BRACE, SEMICOLON}
use Rattle.c_parser_phrases.specs.Standing.{IsAt, IsAtKeyword}
use Rattle.c_parser.specs.declared.starts.Compound.{Compound}
use Rattle.c_parser.specs.declared.starts.Compound.TheVariants as c
use Rattle.c_parser.specs.declared.starts.ItemStart.{ItemStart}
use Rattle.c_parser.specs.declared.starts.ItemStart.TheVariants as s

-- the keyword of the form stands first
abbrev pub BeginsCompound : Compound → List Token → Type 0
BeginsCompound c.If i = IsAtKeyword IF i
BeginsCompound c.While i = IsAtKeyword WHILE i
BeginsCompound c.Do i = IsAtKeyword DO i
BeginsCompound c.For i = IsAtKeyword FOR i
BeginsCompound c.Switch i = IsAtKeyword SWITCH i

-- no such keyword stands first
pub record BeginsNoCompound (i : List Token) : Type 0 where
  pub no_if : IsAtKeyword IF i → ⊥
  pub no_while : IsAtKeyword WHILE i → ⊥
  pub no_do : IsAtKeyword DO i → ⊥
  pub no_for : IsAtKeyword FOR i → ⊥
  pub no_switch : IsAtKeyword SWITCH i → ⊥

abbrev pub StartsCompound : Option Compound → List Token → Type 0
StartsCompound (Some form) i = BeginsCompound form i
StartsCompound None i = BeginsNoCompound i

-- a label of a switch stands first
abbrev pub IsAtLabel : List Token → Type 0
IsAtLabel i = IsAtKeyword CASE i ⊎ IsAtKeyword DEFAULT i

-- what ends a group stands first
abbrev pub EndsGroup : List Token → Type 0
EndsGroup i = IsAt RIGHT_BRACE i ⊎ IsAtLabel i

-- `struct` stands first, and the punctuator after one token more
pub record BeginsTagged (code : ℕ) (i : List Token) : Type 0 where
  pub word : IsAtKeyword STRUCT i
  pub third : IsAt code (drop 2 i)

-- `enum` stands first, and a brace after it or after one token more
pub record BeginsEnum (i : List Token) : Type 0 where
  pub word : IsAtKeyword ENUM i
  pub brace : IsAt LEFT_BRACE (drop 1 i) ⊎ IsAt LEFT_BRACE (drop 2 i)

-- neither a struct with members nor one without them nor an enum stands first
pub record BeginsOther (i : List Token) : Type 0 where
  pub no_struct : BeginsTagged LEFT_BRACE i → ⊥
  pub no_tag : BeginsTagged SEMICOLON i → ⊥
  pub no_enum : BeginsEnum i → ⊥

-- what the first tokens of an item tell
abbrev pub StartsItem : ItemStart → List Token → Type 0
StartsItem s.Struct i = BeginsTagged LEFT_BRACE i
StartsItem s.Tag i = BeginsTagged SEMICOLON i
StartsItem s.Enum i = BeginsEnum i
StartsItem s.Other i = BeginsOther i
