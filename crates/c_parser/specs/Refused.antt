-- Why a list of tokens spells no unit, and at which place that shows. The grammar is that of C99 6.5 to 6.9; how deep nodes and
-- parentheses may stand is a limit of translation (C99 5.2.4.1).
use Rattle.std.specs.Prelude.{◌≡◌, ℕ, List, [], ◌∷◌, ◌++◌, Result, Ok, Err}
use Rattle.dm_base.specs.declared.mode.Mode.{Mode}
use Rattle.c_lexer.specs.declared.token.Token.{Token}
use Rattle.c_syntax.specs.declared.unit.Unit.{Unit as UnitTree}
use Rattle.c_syntax.specs.Tree.{Items}
use Rattle.c_syntax.specs.Spelling.{SpellsAnyDepth}
use Rattle.c_syntax.specs.UnitView.{items_of}
use Rattle.c_parser.specs.declared.error.ParseError.{ParseError}
use Rattle.c_parser.specs.declared.error.ParseError.TheVariants.{OutOfMemory, Syntax, Nesting}
use Rattle.c_parser.specs.TooDeep.{NestsTooDeep}

-- where the last of the tokens ends, or the place where there is none
abbrev pub end_of : ℕ → List Token → ℕ
end_of place [] = place
end_of place (token ∷ tokens) = end_of token.to tokens

-- The tokens spell no unit, however deep its nodes and its parentheses stand, and that shows at the place. Either a token begins
-- there, and no list of tokens that begins with those through this one spells a unit. Or the tokens end there too early: they
-- themselves spell none.
pub data SpellsNoUnit (tokens : List Token) : ℕ → Type 0 where
  stops_at : (before : List Token) (token : Token) (after : List Token) → tokens ≡ before ++ token ∷ after → ((others : List Token) (unit : Items) → SpellsAnyDepth unit (before ++ token ∷ others) → ⊥) → SpellsNoUnit tokens token.from
  ends_early : ((unit : Items) → SpellsAnyDepth unit tokens → ⊥) → SpellsNoUnit tokens (end_of 0 tokens)

-- what each error says of the tokens
abbrev pub IsRefused : List Token → Mode → ParseError → Type 0
IsRefused tokens mode OutOfMemory = Unit {0}
IsRefused tokens mode (Syntax place) = SpellsNoUnit tokens place
IsRefused tokens mode (Nesting place) = NestsTooDeep mode tokens place

-- the unit is what is answered, or memory was refused
abbrev pub Answers : Items → Result UnitTree ParseError → Type 0
Answers unit (Ok u) = items_of u.items.items ≡ unit
Answers unit (Err OutOfMemory) = Unit {0}
Answers unit (Err (Syntax place)) = ⊥
Answers unit (Err (Nesting place)) = ⊥
