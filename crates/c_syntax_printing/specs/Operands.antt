-- Parts of expressions as relations between lists of tokens, within a bound, and with what may follow them.
use Rattle.std.specs.Prelude.{◌≡◌, ◌≤◌, suc, ◌-◌, List, ◌∷◌, ◌++◌, ℕ}
use Rattle.c_lexer.specs.declared.token.Token.{Token}
use Rattle.c_lexer.specs.declared.punctuator.TheConstants.{LEFT_PARENTHESIS, RIGHT_PARENTHESIS, RIGHT_BRACKET, QUESTION, COLON, COMMA}
use Rattle.c_syntax_printing.specs.Ranks.{Stops}
use Rattle.c_syntax_printing.specs.Starts.{start, EndsDeclarator}
use Rattle.c_syntax.specs.Tokens.{Is, place}
use Rattle.c_syntax.specs.Tree.{Ident, Expr, Exprs, TypeName}
use Rattle.c_syntax.specs.Specifiers.{Names}
use Rattle.c_syntax.specs.Grammar.{postfix_level, unary_level, cast_level, binary_level, conditional_level, expression_level, ReadsList, Suffixes, Chain, ReadsType, primary_level, Reads}
use Rattle.c_syntax.specs.Limits.{height, height_of_exprs, height_of_type}
use Rattle.c_syntax_printing.specs.Fails.{Then, Or, One}
use Rattle.c_syntax_printing.specs.Phrases.{Bound, any, within, Fits, inner, AnExpr, Punctuator}

-- inside one more pair of parentheses
abbrev pub enclosed : Bound → Bound
enclosed any = any
enclosed (within p n) = within (p - 1) n

-- the token is a name
pub record IsSomeName (t : Token) : Type 0 where
  pub ident : Ident
  pub names : Names ident t

-- the name of a type
pub record AType (b : Bound) (i j : List Token) : Type 0 where
  pub depth : ℕ
  pub tree : TypeName
  pub reads : ReadsType depth tree i j
  pub ends : EndsDeclarator j
  pub fits : Fits b depth (height_of_type tree)

-- one or more expressions with commas between
pub record SomeExprs (b : Bound) (i j : List Token) : Type 0 where
  pub depth : ℕ
  pub trees : Exprs
  pub reads : ReadsList depth trees i j
  pub stops : Stops expression_level j
  pub fits : Fits b depth (height_of_exprs trees)

-- what stands after some operand, as far as it goes
pub record SomeSuffixes (b : Bound) (i j : List Token) : Type 0 where
  pub depth : ℕ
  pub at : ℕ
  pub operand : Expr
  pub tree : Expr
  pub reads : Suffixes depth at operand tree i j
  pub stops : Stops postfix_level j
  pub fits : Fits b depth (height tree)

-- operators of the level n + 1 with their right operands after some left operand, as far as they go
pub record SomeChain (b : Bound) (n : ℕ) (i j : List Token) : Type 0 where
  pub depth : ℕ
  pub at : ℕ
  pub operand : Expr
  pub tree : Expr
  pub reads : Chain depth n at operand tree i j
  pub stops : Stops (binary_level (suc n)) j
  pub fits : Fits b depth (height tree)

-- nothing, where nothing goes on with an operand
pub data NoSuffix : List Token → List Token → Type 0 where
  no_suffix_stands : {i : List Token} → Stops unary_level i → NoSuffix i i

-- nothing, where no ? and nothing that binds stronger stands
pub data NoChoice : List Token → List Token → Type 0 where
  no_choice_stands : {i : List Token} → Stops conditional_level i → NoChoice i i

-- no parenthesis stands first with the name of a type after it
abbrev pub NotCast : List Token → Type 0
NotCast i = (t : Token) (j : List Token) → i ≡ t ∷ j → Is LEFT_PARENTHESIS t → 7 ≤ start j → ⊥

-- where a parenthesis stands first, the rest is behind it
pub record Past (i r : List Token) : Type 0 where
  pub behind : (t : Token) (j : List Token) → i ≡ t ∷ j → Is LEFT_PARENTHESIS t → (front : List Token) × (j ≡ front ++ r)

-- what follows the first token

abbrev pub ParenthesisTail : Bound → List Token → List Token → Type 0
ParenthesisTail b = Then (AnExpr b expression_level) (Punctuator RIGHT_PARENTHESIS)

abbrev pub IndexTail : Bound → List Token → List Token → Type 0
IndexTail b = Then (AnExpr (inner b) expression_level) (Then (Punctuator RIGHT_BRACKET) (SomeSuffixes b))

abbrev pub CallTail : Bound → List Token → List Token → Type 0
CallTail b = Or (Then (Punctuator RIGHT_PARENTHESIS) (SomeSuffixes b)) (Then (SomeExprs (inner b)) (Then (Punctuator RIGHT_PARENTHESIS) (SomeSuffixes b)))

abbrev pub MemberTail : Bound → List Token → List Token → Type 0
MemberTail b = Then (One IsSomeName) (SomeSuffixes b)

abbrev pub SizeofType : Bound → List Token → List Token → Type 0
SizeofType b = Then (AType b) (Then (Punctuator RIGHT_PARENTHESIS) NoSuffix)

abbrev pub SizeofTail : Bound → List Token → List Token → Type 0
SizeofTail b = Or (AnExpr b unary_level) (Then (Punctuator LEFT_PARENTHESIS) (SizeofType b))

abbrev pub CastTail : Bound → List Token → List Token → Type 0
CastTail b = Then (AType b) (Then (Punctuator RIGHT_PARENTHESIS) (AnExpr b cast_level))

-- the arguments of a call, and the parenthesis after them
abbrev pub SomeArguments : Bound → List Token → List Token → Type 0
SomeArguments b = Or (Punctuator RIGHT_PARENTHESIS) (Then (SomeExprs b) (Punctuator RIGHT_PARENTHESIS))

-- what follows the `?`
abbrev pub ChoiceTail : Bound → List Token → List Token → Type 0
ChoiceTail b = Then (AnExpr b expression_level) (Then (Punctuator COLON) (AnExpr b conditional_level))

-- what follows the test
abbrev pub ChoiceRest : Bound → List Token → List Token → Type 0
ChoiceRest b = Or NoChoice (Then (Punctuator QUESTION) (ChoiceTail (inner b)))

-- nothing, where no comma stands
pub data NoComma : List Token → List Token → Type 0 where
  no_comma_stands : {i : List Token} → Stops expression_level i → NoComma i i

-- what follows the first of some expressions
abbrev pub ExprsRest : Bound → List Token → List Token → Type 0
ExprsRest b = Or NoComma (Then (Punctuator COMMA) (SomeExprs b))

-- an operand, and suffixes that were read of it so far
pub record Postfixed (d : ℕ) (e : Expr) (i j : List Token) : Type 0 where
  pub at : ℕ
  pub operand : Expr
  pub after : List Token
  pub begins : at ≡ place i
  pub reads : Reads d primary_level operand i after
  pub stops : Stops primary_level after
  pub suffixes : Suffixes d at operand e after j
