-- Declarators with a name or without, and their parts, as relations between lists of tokens, within a bound.
use Rattle.std.specs.Prelude.{◌≡◌, ◌≤◌, List, ◌∷◌, ℕ}
use Rattle.c_lexer.specs.declared.token.Token.{Token}
use Rattle.c_lexer.specs.declared.punctuator.TheConstants.{LEFT_PARENTHESIS, RIGHT_PARENTHESIS, RIGHT_BRACKET, COMMA}
use Rattle.c_syntax.specs.Tree.{Declarator, pointer, array, function, Maybe, Params, nothing}
use Rattle.c_syntax.specs.Tokens.{Is, place}
use Rattle.c_syntax.specs.Grammar.{conditional_level, HasName, HasNoName, Declares, Lengthens, ReadsParams, ReadsEach, ReadsCore, IsThere}
use Rattle.c_syntax.specs.Limits.{height_of_declarator, height_of_params}
use Rattle.c_syntax_printing.specs.Starts.{start, EndsDeclarator}
use Rattle.c_syntax_printing.specs.Fails.{Then, Or}
use Rattle.c_syntax_printing.specs.Phrases.{Bound, Fits, ASpec, AnExpr, Punctuator}
use Rattle.c_syntax_printing.specs.Operands.{enclosed}

-- a property of declarators that hangs on what they are made of alone, as having a name, having none, or any
pub record Carries (N : Declarator → Type 0) : Type 0 where
  pub of_pointer : (at : ℕ) (e : Declarator) → N (pointer at e) → N e
  pub of_array : (at : ℕ) (e : Declarator) (size : Maybe) → N (array at e size) → N e
  pub of_function : (at : ℕ) (e : Declarator) (ps : Params) → N (function at e ps) → N e

-- whether a declarator has a name
pub data Naming : Type 0 where
  with_name without_name either_way : Naming

-- any declarator
abbrev pub AnyName : Declarator → Type 0
AnyName e = Unit {0}

abbrev pub Suited : Naming → Declarator → Type 0
Suited with_name e = HasName e
Suited without_name e = HasNoName e
Suited either_way e = AnyName e

-- a declarator with the property
pub record ADeclared (N : Declarator → Type 0) (b : Bound) (i j : List Token) : Type 0 where
  pub depth : ℕ
  pub tree : Declarator
  pub reads : Declares depth tree i j
  pub suits : N tree
  pub ends : EndsDeclarator j
  pub fits : Fits b depth (height_of_declarator tree)

-- array sizes and parameters after some declarator, as far as they go
pub record SomeLengthens (b : Bound) (i j : List Token) : Type 0 where
  pub depth : ℕ
  pub at : ℕ
  pub core : Declarator
  pub tree : Declarator
  pub reads : Lengthens depth at core tree i j
  pub ends : EndsDeclarator j
  pub fits : Fits b depth (height_of_declarator tree)

-- No name, no * and no parenthesis of a declarator stands first: a parenthesis begins parameters.
pub record NoCore (i : List Token) : Type 0 where
  pub no_star : start i ≡ 2 → ⊥
  pub no_name : start i ≡ 5 → ⊥
  pub no_opening : (t : Token) (j : List Token) → i ≡ t ∷ j → Is LEFT_PARENTHESIS t → 7 ≤ start j

-- what follows the parenthesis of a declarator
abbrev pub DeclaratorTail : (Declarator → Type 0) → Bound → List Token → List Token → Type 0
DeclaratorTail N b = Then (ADeclared N (enclosed b)) (Then (Punctuator RIGHT_PARENTHESIS) (SomeLengthens b))

-- the size of an array, or nothing, and the bracket after it
abbrev pub SizeClosed : Bound → List Token → List Token → Type 0
SizeClosed b = Or (Punctuator RIGHT_BRACKET) (Then (AnExpr b conditional_level) (Punctuator RIGHT_BRACKET))

-- a parameter
abbrev pub AParam : Bound → List Token → List Token → Type 0
AParam b = Then ASpec (ADeclared AnyName b)

-- parameters and the parenthesis after them
pub data ParamsClosed (b : Bound) : List Token → List Token → Type 0 where
  params_closed : {d : ℕ} {ps : Params} {u : Token} {i j : List Token} → ReadsParams d ps i (u ∷ j) → Is RIGHT_PARENTHESIS u → Fits b d (height_of_params ps) → ParamsClosed b i j

-- what stands after a parameter, through that parenthesis
pub data EachClosed (b : Bound) : List Token → List Token → Type 0 where
  closed_here : {u : Token} {j : List Token} → Is RIGHT_PARENTHESIS u → EachClosed b (u ∷ j) j
  more_closed : {d : ℕ} {ps : Params} {t u : Token} {i j : List Token} → Is COMMA t → ReadsEach d ps i (u ∷ j) → Is RIGHT_PARENTHESIS u → Fits b d (height_of_params ps) → EachClosed b (t ∷ i) j

-- a name or a declarator in parentheses, and what was read of it so far
pub record Lengthened (d : ℕ) (e : Declarator) (i j : List Token) : Type 0 where
  pub at : ℕ
  pub middle : Declarator
  pub after : List Token
  pub begins : at ≡ place i
  pub core : ReadsCore d middle i after
  pub stands : IsThere middle
  pub lengthens : Lengthens d at middle e after j

-- array sizes and parameters that were read so far where no name stands
pub record Bare (d : ℕ) (e : Declarator) (i j : List Token) : Type 0 where
  pub at : ℕ
  pub begins : at ≡ place i
  pub lengthens : Lengthens d at nothing e i j
