-- What is counted in a part, from the syntax alone: the calls that are evaluated, and the strings. Operands that aren't
-- evaluated count nothing (6.5.3.4 paragraph 2, 6.6).
use Rattle.std.specs.Prelude.{ℕ, suc, ◌+◌, List, [], ◌∷◌, ◌++◌, length}
use Rattle.c_syntax.specs.Tree.{Expr, a_name, an_int, a_char, a_str, comma, sizeof_type, cast, call, member, postfix, prefix, unary, index, binary, assign, conditional, Exprs, no_exprs, more_exprs, Maybe, absent, there}
use Rattle.c_syntax.specs.Tree.{Prefix, pre_increment, pre_decrement, sizeof}
use Rattle.c_rules.specs.Scopes.{Before}

-- the place of an expression
abbrev pub place_of : Expr → ℕ
place_of (a_name at x) = at
place_of (an_int at n u) = at
place_of (a_char at c) = at
place_of (a_str at w) = at
place_of (comma at es) = at
place_of (sizeof_type at t) = at
place_of (cast at t e) = at
place_of (call at d es) = at
place_of (member at how e x) = at
place_of (postfix at op e) = at
place_of (prefix at op e) = at
place_of (unary at op e) = at
place_of (index at a b) = at
place_of (binary at op a b) = at
place_of (assign at op a b) = at
place_of (conditional at c a b) = at

-- what the operand of a prefix counts: nothing under sizeof
abbrev pub unless_sizeof : {A : Type 0} → Prefix → A → A → A
unless_sizeof pre_increment a none = a
unless_sizeof pre_decrement a none = a
unless_sizeof sizeof a none = none

-- The calls in an expression. The site of a call is the number of calls whose opening parentheses stand before its own.
abbrev mutual
  pub calls : Expr → ℕ
  calls (a_name at x) = 0
  calls (an_int at n u) = 0
  calls (a_char at c) = 0
  calls (a_str at w) = 0
  calls (comma at es) = calls_of_all es
  calls (sizeof_type at t) = 0
  calls (cast at t e) = calls e
  calls (call at d es) = calls d + suc (calls_of_all es)
  calls (member at how e x) = calls e
  calls (postfix at op e) = calls e
  calls (prefix at op e) = unless_sizeof op (calls e) 0
  calls (unary at op e) = calls e
  calls (index at a b) = calls a + calls b
  calls (binary at op a b) = calls a + calls b
  calls (assign at op a b) = calls a + calls b
  calls (conditional at c a b) = calls c + (calls a + calls b)

  pub calls_of_all : Exprs → ℕ
  calls_of_all no_exprs = 0
  calls_of_all (more_exprs e es) = calls e + calls_of_all es

-- the strings in an expression, in the order of the text
abbrev mutual
  pub strings : Expr → List (List ℕ)
  strings (a_name at x) = []
  strings (an_int at n u) = []
  strings (a_char at c) = []
  strings (a_str at w) = w ∷ []
  strings (comma at es) = strings_of_all es
  strings (sizeof_type at t) = []
  strings (cast at t e) = strings e
  strings (call at d es) = strings d ++ strings_of_all es
  strings (member at how e x) = strings e
  strings (postfix at op e) = strings e
  strings (prefix at op e) = unless_sizeof op (strings e) []
  strings (unary at op e) = strings e
  strings (index at a b) = strings a ++ strings b
  strings (binary at op a b) = strings a ++ strings b
  strings (assign at op a b) = strings a ++ strings b
  strings (conditional at c a b) = strings c ++ (strings a ++ strings b)

  pub strings_of_all : Exprs → List (List ℕ)
  strings_of_all no_exprs = []
  strings_of_all (more_exprs e es) = strings e ++ strings_of_all es

-- an expression that may be left out
abbrev pub calls_of_maybe : Maybe → ℕ
calls_of_maybe absent = 0
calls_of_maybe (there e) = calls e

abbrev pub strings_of_maybe : Maybe → List (List ℕ)
strings_of_maybe absent = []
strings_of_maybe (there e) = strings e

-- the cells of strings; each has a zero at its end (6.4.5 paragraph 5)
abbrev pub string_cells : List (List ℕ) → ℕ
string_cells [] = 0
string_cells (w ∷ ws) = suc (length w) + string_cells ws

-- so much stands before what follows these calls and strings
abbrev pub past : Before → ℕ → List (List ℕ) → Before
past before sites ws =
    record { sites = before.sites + sites; strings = before.strings ++ ws; cells = before.cells + string_cells ws }

-- so much stands before what follows an expression
abbrev pub after : Before → Expr → Before
after before e = past before (calls e) (strings e)

abbrev pub after_maybe : Before → Maybe → Before
after_maybe before m = past before (calls_of_maybe m) (strings_of_maybe m)

-- so much stands before the arguments of a call
abbrev pub after_designator : Before → Expr → Before
after_designator before d = past before (suc (calls d)) (strings d)
