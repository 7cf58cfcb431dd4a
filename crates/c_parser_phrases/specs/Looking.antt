-- What stands first among the tokens that are left, for the readers of expressions and declarators.
use Rattle.std.specs.Prelude.{◌≡◌, ◌≤◌, ◌⊎◌, ◌+◌, ℕ, Bool, true, false, nat_eq, Option, Some, None, List, [], ◌∷◌}
use Rattle.c_lexer.specs.declared.token.Token.{Token}
use Rattle.c_lexer.specs.declared.token.TokenKind.{TokenKind}
use Rattle.c_lexer.specs.declared.token.TokenKind.TheVariants.{Punct}
use Rattle.c_lexer.specs.declared.punctuator.TheConstants.{LEFT_BRACKET, LEFT_PARENTHESIS, DOT, ARROW, INCREMENT, DECREMENT, AND, OR}
use Rattle.c_lexer.specs.declared.keyword.TheConstants.{SIZEOF}
use Rattle.c_syntax.specs.Tree.{Infix, and, or, operator, Prefix, pre_increment, pre_decrement}
use Rattle.c_syntax.specs.Tokens.{Is, IsUnary, IsAssignment, IsInfix, code_of_infix, IsPrefix}
use Rattle.c_syntax_printing.specs.Ranks.{rank, rank_of_kind}
use Rattle.c_syntax_printing.specs.Starts.{start}
use Rattle.c_parser_phrases.specs.declared.looking.Infix.{Infix as Between}
use Rattle.c_parser_phrases.specs.declared.looking.Infix.TheVariants as b
use Rattle.c_parser_phrases.specs.declared.looking.Operator.{Operator}
use Rattle.c_parser_phrases.specs.declared.looking.Suffix.{Suffix}
use Rattle.c_parser_phrases.specs.declared.looking.Suffix.TheVariants as s
use Rattle.c_parser_phrases.specs.declared.looking.Step.{Step}
use Rattle.c_parser_phrases.specs.declared.looking.Step.TheVariants as p
use Rattle.c_parser_phrases.specs.declared.looking.Prefix.{Prefix as Before}
use Rattle.c_parser_phrases.specs.declared.looking.Prefix.TheVariants as q
use Rattle.c_parser_phrases.specs.declared.form.Form.{Form}
use Rattle.c_parser_phrases.specs.declared.form.Form.TheVariants.{Named, Abstract}
use Rattle.c_parser_phrases.specs.declared.error.PhraseError.{PhraseError}
use Rattle.c_parser_phrases.specs.declared.error.PhraseError.TheVariants.{Syntax, Nesting}
use Rattle.c_parser_phrases.specs.Standing.{IsAt, IsAtKeyword}

abbrev pub infix_of : Between → Infix
infix_of b.And = and
infix_of b.Or = or
infix_of (b.Operator code) = operator code

abbrev pub step_of : Step → Prefix
step_of p.Increment = pre_increment
step_of p.Decrement = pre_decrement

-- what a punctuator is between two operands
abbrev pub between : ℕ → Infix
between code = elim (nat_eq code AND) [ true ↦ and | false ↦ elim (nat_eq code OR) [ true ↦ or | false ↦ operator code ] ]

-- a keyword that begins specifiers stands first
pub record IsAtSpecifier (ts : List Token) : Type 0 where
  pub low : 7 ≤ start ts
  pub high : start ts ≤ 14

-- a parenthesis stands first, and then a word of specifiers or of a storage class
abbrev pub IsAtCast : List Token → Type 0
IsAtCast [] = ⊥
IsAtCast (t ∷ ts) = Is LEFT_PARENTHESIS t × (7 ≤ start ts)

-- an operator of a level up to the number stands first, or what stands there has another rank
abbrev pub StandsOperator : ℕ → Option Operator → List Token → Type 0
StandsOperator most (Some o) i = (t : Token) × (j : List Token) × (i ≡ t ∷ j) × Is (code_of_infix (infix_of o.between)) t × IsInfix (infix_of o.between) o.level × (o.level ≤ most)
StandsOperator most None i = 2 ≤ rank i → most + 2 ≤ rank i

abbrev pub IsSuffix : Suffix → Token → Type 0
IsSuffix s.Index t = Is LEFT_BRACKET t
IsSuffix s.Call t = Is LEFT_PARENTHESIS t
IsSuffix s.Dot t = Is DOT t
IsSuffix s.Arrow t = Is ARROW t
IsSuffix s.Increment t = Is INCREMENT t
IsSuffix s.Decrement t = Is DECREMENT t

abbrev pub StandsSuffix : Option Suffix → List Token → Type 0
StandsSuffix (Some s) i = (t : Token) × (j : List Token) × (i ≡ t ∷ j) × IsSuffix s t
StandsSuffix None i = 1 ≤ rank i → 2 ≤ rank i

abbrev pub StandsAssignment : Option ℕ → List Token → Type 0
StandsAssignment (Some code) i = (t : Token) × (j : List Token) × (i ≡ t ∷ j) × Is code t × IsAssignment code
StandsAssignment None i = 13 ≤ rank i → 14 ≤ rank i

abbrev pub StandsUnary : Option ℕ → List Token → Type 0
StandsUnary (Some code) i = (t : Token) × (j : List Token) × (i ≡ t ∷ j) × Is code t × IsUnary code
StandsUnary None i = (code : ℕ) → 10 ≤ code → code ≤ 15 → IsAt code i → ⊥

abbrev pub StandsStep : Option Step → List Token → Type 0
StandsStep (Some s) i = (t : Token) × (j : List Token) × (i ≡ t ∷ j) × IsPrefix (step_of s) t
StandsStep None i = (IsAt INCREMENT i → ⊥) × (IsAt DECREMENT i → ⊥)

abbrev pub StandsPrefix : Option Before → List Token → Type 0
StandsPrefix (Some q.Sizeof) i = IsAtKeyword SIZEOF i
StandsPrefix (Some (q.Step s)) i = StandsStep (Some s) i
StandsPrefix (Some (q.Operator code)) i = StandsUnary (Some code) i
StandsPrefix None i = 1 ≤ start i → 3 ≤ start i

-- the number of the punctuator that the token is, or it has no rank between those of strings and of what goes on with nothing
abbrev pub HasCode : Option ℕ → TokenKind → Type 0
HasCode (Some code) k = k ≡ Punct code
HasCode None k = (1 ≤ rank_of_kind k → 100 ≤ rank_of_kind k) × ((code : ℕ) → k ≡ Punct code → ⊥)

-- a parenthesis stands first, and what follows it is inside a declarator
abbrev pub OpensInside : Form → Bool → List Token → Type 0
OpensInside form true i = (t : Token) × (j : List Token) × (i ≡ t ∷ j) × Is LEFT_PARENTHESIS t × ((start j ≤ 6) ⊎ (form ≡ Named))
OpensInside form false i = (IsAt LEFT_PARENTHESIS i → ⊥) ⊎ ((form ≡ Named → ⊥) × ((t : Token) (j : List Token) → i ≡ t ∷ j → 7 ≤ start j))

-- why no part of a declarator is read: one begins at the limit, or none does
pub record IsDeepOrWrong (deepest : ℕ) (e : PhraseError) (i : List Token) : Type 0 where
  pub wrong : e ≡ Syntax → (IsAt LEFT_BRACKET i → ⊥) × (IsAt LEFT_PARENTHESIS i → ⊥)
  pub deep : (at : ℕ) → e ≡ Nesting at → (at ≡ deepest) × (IsAt LEFT_BRACKET i ⊎ IsAt LEFT_PARENTHESIS i)

-- why nothing is read after a parenthesis for which no pair is left: an expression begins there, or none does
pub record LacksPair (opening : ℕ) (e : PhraseError) (i : List Token) : Type 0 where
  pub wrong : e ≡ Syntax → 1 ≤ start i → 6 ≤ start i
  pub deep : (at : ℕ) → e ≡ Nesting at → (at ≡ opening) × (1 ≤ start i) × (start i ≤ 5)

-- a declarator of the form can begin there
pub record BeginsDeclarator (form : Form) (i : List Token) : Type 0 where
  pub some : 2 ≤ start i
  pub no_constant : start i ≡ 3 → ⊥
  pub no_name : start i ≡ 5 → form ≡ Abstract → ⊥

-- a declarator of the form cannot begin there
abbrev pub BeginsNoDeclarator : Form → List Token → Type 0
BeginsNoDeclarator form i = (start i ≤ 1) ⊎ ((start i ≡ 3) ⊎ ((start i ≡ 5) × (form ≡ Abstract)))

-- why nothing is read after a parenthesis in a declarator for which no pair is left
pub record LacksDeclaratorPair (form : Form) (opening : ℕ) (e : PhraseError) (i : List Token) : Type 0 where
  pub wrong : e ≡ Syntax → BeginsNoDeclarator form i
  pub deep : (at : ℕ) → e ≡ Nesting at → (at ≡ opening) × BeginsDeclarator form i
