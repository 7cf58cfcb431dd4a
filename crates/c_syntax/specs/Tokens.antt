-- Which tokens stand where, and the operators by their names.
use Rattle.std.specs.Prelude.{◌≡◌, ℕ, ℤ, Bool, List, [], ◌∷◌}
use Rattle.c_lexer.specs.declared.token.Token.{Token}
use Rattle.c_lexer.specs.declared.token.TokenKind.TheVariants.{Name, Keyword, Int, Char, Str, Punct}
use Rattle.c_lexer.specs.declared.punctuator.TheConstants.{DOT, ARROW, INCREMENT, DECREMENT, AMPERSAND, ASTERISK, PLUS, MINUS, TILDE, EXCLAMATION, SLASH, PERCENT, LEFT_SHIFT, RIGHT_SHIFT, LESS, GREATER, LESS_EQUAL, GREATER_EQUAL, EQUAL_EQUAL, NOT_EQUAL, CARET, BAR, AND, OR}
use Rattle.c_lexer.specs.declared.punctuator.TheConstants.{ASSIGN, ASSIGN_MULTIPLY, ASSIGN_DIVIDE, ASSIGN_REMAINDER, ASSIGN_ADD, ASSIGN_SUBTRACT, ASSIGN_LEFT_SHIFT, ASSIGN_RIGHT_SHIFT, ASSIGN_AND, ASSIGN_XOR, ASSIGN_OR}
use Rattle.c_lexer.specs.declared.keyword.TheConstants.{SIZEOF}
use Rattle.c_syntax.specs.Tree.{Postfix, post_increment, post_decrement, Prefix, pre_increment, pre_decrement, sizeof, Access, dot, arrow, Infix, and, or, operator}

-- the token is the punctuator with the number
pub record Is (code : ℕ) (t : Token) : Type 0 where
  pub kind : t.kind ≡ Punct code

-- the token is the keyword with the number
pub record IsKeyword (code : ℕ) (t : Token) : Type 0 where
  pub kind : t.kind ≡ Keyword code

pub record IsNameToken (name : List ℕ) (t : Token) : Type 0 where
  pub kind : t.kind ≡ Name name

pub record IsInt (value : ℕ) (unsigned : Bool) (t : Token) : Type 0 where
  pub kind : t.kind ≡ Int value unsigned

pub record IsChar (c : ℤ) (t : Token) : Type 0 where
  pub kind : t.kind ≡ Char c

pub record IsStr (bytes : List ℕ) (t : Token) : Type 0 where
  pub kind : t.kind ≡ Str bytes

-- the place of the first token
abbrev pub place : List Token → ℕ
place [] = 0
place (t ∷ ts) = t.from

-- the unary operators of 6.5.3.2 and 6.5.3.3: & * + - ~ !
pub data IsUnary : ℕ → Type 0 where
  takes_address : IsUnary AMPERSAND
  indirects : IsUnary ASTERISK
  keeps_sign : IsUnary PLUS
  changes_sign : IsUnary MINUS
  complements : IsUnary TILDE
  negates : IsUnary EXCLAMATION

-- the assignment operators (6.5.16): = *= /= %= += -= <<= >>= &= ^= |=
pub data IsAssignment : ℕ → Type 0 where
  assigns : IsAssignment ASSIGN
  assigns_product : IsAssignment ASSIGN_MULTIPLY
  assigns_quotient : IsAssignment ASSIGN_DIVIDE
  assigns_remainder : IsAssignment ASSIGN_REMAINDER
  assigns_sum : IsAssignment ASSIGN_ADD
  assigns_difference : IsAssignment ASSIGN_SUBTRACT
  assigns_left_shift : IsAssignment ASSIGN_LEFT_SHIFT
  assigns_right_shift : IsAssignment ASSIGN_RIGHT_SHIFT
  assigns_bit_and : IsAssignment ASSIGN_AND
  assigns_bit_xor : IsAssignment ASSIGN_XOR
  assigns_bit_or : IsAssignment ASSIGN_OR

-- the punctuator that an operator between two operands is
abbrev pub code_of_infix : Infix → ℕ
code_of_infix and = AND
code_of_infix or = OR
code_of_infix (operator code) = code

-- The operators between two operands, level by level from the one that binds strongest. && and || have forms of their own.
pub data IsInfix : Infix → ℕ → Type 0 where
  -- 6.5.5
  multiplies : IsInfix (operator ASTERISK) 1
  divides : IsInfix (operator SLASH) 1
  takes_remainder : IsInfix (operator PERCENT) 1
  -- 6.5.6
  adds : IsInfix (operator PLUS) 2
  subtracts : IsInfix (operator MINUS) 2
  -- 6.5.7
  shifts_left : IsInfix (operator LEFT_SHIFT) 3
  shifts_right : IsInfix (operator RIGHT_SHIFT) 3
  -- 6.5.8
  is_less : IsInfix (operator LESS) 4
  is_greater : IsInfix (operator GREATER) 4
  is_at_most : IsInfix (operator LESS_EQUAL) 4
  is_at_least : IsInfix (operator GREATER_EQUAL) 4
  -- 6.5.9
  is_equal : IsInfix (operator EQUAL_EQUAL) 5
  is_unequal : IsInfix (operator NOT_EQUAL) 5
  -- 6.5.10 to 6.5.12
  ands_bits : IsInfix (operator AMPERSAND) 6
  xors_bits : IsInfix (operator CARET) 7
  ors_bits : IsInfix (operator BAR) 8
  -- 6.5.13, 6.5.14
  ands : IsInfix and 9
  ors : IsInfix or 10

abbrev pub IsPostfix : Postfix → Token → Type 0
IsPostfix post_increment t = Is INCREMENT t
IsPostfix post_decrement t = Is DECREMENT t

abbrev pub IsPrefix : Prefix → Token → Type 0
IsPrefix pre_increment t = Is INCREMENT t
IsPrefix pre_decrement t = Is DECREMENT t
IsPrefix sizeof t = IsKeyword SIZEOF t

abbrev pub IsAccess : Access → Token → Type 0
IsAccess dot t = Is DOT t
IsAccess arrow t = Is ARROW t
