-- Parts of specifiers as relations between lists of tokens.
use Rattle.std.specs.Prelude.{List}
use Rattle.c_lexer.specs.declared.token.Token.{Token}
use Rattle.c_lexer.specs.declared.keyword.TheConstants.{CHAR, CONST, INT, ENUM, SIGNED, STRUCT, UNSIGNED, VOID}
use Rattle.c_syntax.specs.Tokens.{IsKeyword}
use Rattle.c_syntax.specs.Specifiers.{Consts}
use Rattle.c_syntax_printing.specs.Starts.{EndsSpec}
use Rattle.c_syntax_printing.specs.Fails.{Then, Or, One, NotAt}
use Rattle.c_syntax_printing.specs.Phrases.{Word}
use Rattle.c_syntax_printing.specs.Operands.{IsSomeName}

-- each const that stands first
pub data AConsts : List Token → List Token → Type 0 where
  are_consts : {i j : List Token} → Consts i j → NotAt (IsKeyword CONST) j → AConsts i j

-- nothing, where no word of specifiers or of a storage class stands
pub data NoSpec : List Token → List Token → Type 0 where
  no_spec : {i : List Token} → EndsSpec i → NoSpec i i

-- what follows the last word of specifiers
abbrev pub SpecEnd : List Token → List Token → Type 0
SpecEnd = Then AConsts NoSpec

-- what follows `signed`
abbrev pub SignedTail : List Token → List Token → Type 0
SignedTail = Then AConsts (Or NoSpec (Then (Word INT) SpecEnd))

-- what follows `unsigned`
abbrev pub UnsignedTail : List Token → List Token → Type 0
UnsignedTail = Then AConsts (Or NoSpec (Or (Then (Word INT) SpecEnd) (Then (Word CHAR) SpecEnd)))

-- what follows `struct` and `enum`
abbrev pub TagTail : List Token → List Token → Type 0
TagTail = Then (One IsSomeName) SpecEnd

-- no word that begins specifiers stands first
pub record NoTypeWord (i : List Token) : Type 0 where
  pub no_const : NotAt (IsKeyword CONST) i
  pub no_void : NotAt (IsKeyword VOID) i
  pub no_char : NotAt (IsKeyword CHAR) i
  pub no_int : NotAt (IsKeyword INT) i
  pub no_signed : NotAt (IsKeyword SIGNED) i
  pub no_unsigned : NotAt (IsKeyword UNSIGNED) i
  pub no_struct : NotAt (IsKeyword STRUCT) i
  pub no_enum : NotAt (IsKeyword ENUM) i
