-- The places of the call expressions that are evaluated in a part of a unit, in the order of their opening parentheses (6.5.2.2): those in the
-- designator, then the call's own, then those in the arguments. Operands that aren't evaluated have none (6.5.3.4 paragraph 2, 6.6).
use Rattle.std.specs.Prelude.{ℕ, List, [], ◌∷◌, ◌++◌}
use Rattle.c_syntax.specs.Tree.{Expr, a_name, an_int, a_char, a_str, comma, sizeof_type, cast, call, member, postfix, prefix, unary, index, binary, assign, conditional, Exprs, no_exprs, more_exprs, Maybe, absent, there}
use Rattle.c_syntax.specs.Tree.{pre_increment, pre_decrement, sizeof}
use Rattle.c_syntax.specs.Tree.{Init, one, list, Inits, no_inits, more_inits, MaybeInit, no_init, an_init, Parts, no_parts, more_parts, Decl, decl, First, first_absent, first_expr, first_decl}
use Rattle.c_syntax.specs.Tree.{Stmt, block, empty, evaluate, only_if, if_else, while_loop, do_loop, for_loop, switch_on, break_off, continue_on, return_from}
use Rattle.c_syntax.specs.Tree.{BlockItems, no_block_items, block_decl, block_stmt, Stmts, no_stmts, more_stmts, Groups, no_groups, more_groups}

-- ## Expressions

-- the place of a call expression is that of its first byte
abbrev mutual
  pub places : Expr → List ℕ
  places (a_name at x) = []
  places (an_int at n u) = []
  places (a_char at c) = []
  places (a_str at w) = []
  places (comma at es) = places_of_all es
  places (sizeof_type at t) = []
  places (cast at t e) = places e
  places (call at d es) = places d ++ at ∷ places_of_all es
  places (member at how e x) = places e
  places (postfix at op e) = places e
  places (prefix at pre_increment e) = places e
  places (prefix at pre_decrement e) = places e
  places (prefix at sizeof e) = []
  places (unary at op e) = places e
  places (index at a b) = places a ++ places b
  places (binary at op a b) = places a ++ places b
  places (assign at op a b) = places a ++ places b
  places (conditional at c a b) = places c ++ (places a ++ places b)

  pub places_of_all : Exprs → List ℕ
  places_of_all no_exprs = []
  places_of_all (more_exprs e es) = places e ++ places_of_all es

-- an expression that may be left out
abbrev pub places_of_maybe : Maybe → List ℕ
places_of_maybe absent = []
places_of_maybe (there e) = places e

-- ## Declarations in blocks: those in initialisers, since the size of an array is constant (6.7.5.2, 6.7.8)

abbrev mutual
  pub places_of_init : Init → List ℕ
  places_of_init (one at e) = places e
  places_of_init (list at is) = places_of_inits is

  pub places_of_inits : Inits → List ℕ
  places_of_inits no_inits = []
  places_of_inits (more_inits i is) = places_of_init i ++ places_of_inits is

abbrev pub places_of_maybe_init : MaybeInit → List ℕ
places_of_maybe_init no_init = []
places_of_maybe_init (an_init i) = places_of_init i

abbrev pub places_of_parts : Parts → List ℕ
places_of_parts no_parts = []
places_of_parts (more_parts d m ps) = places_of_maybe_init m ++ places_of_parts ps

abbrev pub places_of_decl : Decl → List ℕ
places_of_decl (decl at class s ps) = places_of_parts ps

-- what stands first in the head of a for
abbrev pub places_of_first : First → List ℕ
places_of_first first_absent = []
places_of_first (first_expr e) = places e
places_of_first (first_decl d) = places_of_decl d

-- ## Statements; the values of labels are constant (6.8.4.2 paragraph 3)

abbrev mutual
  pub places_of_stmt : Stmt → List ℕ
  places_of_stmt (block at is) = places_of_block is
  places_of_stmt (empty at) = []
  places_of_stmt (evaluate at e) = places e
  places_of_stmt (only_if at e s) = places e ++ places_of_stmt s
  places_of_stmt (if_else at e s t) = places e ++ (places_of_stmt s ++ places_of_stmt t)
  places_of_stmt (while_loop at e s) = places e ++ places_of_stmt s
  places_of_stmt (do_loop at s e) = places_of_stmt s ++ places e
  places_of_stmt (for_loop at first test step s) =
      places_of_first first ++ (places_of_maybe test ++ (places_of_maybe step ++ places_of_stmt s))
  places_of_stmt (switch_on at e gs) = places e ++ places_of_groups gs
  places_of_stmt (break_off at) = []
  places_of_stmt (continue_on at) = []
  places_of_stmt (return_from at m) = places_of_maybe m

  pub places_of_block : BlockItems → List ℕ
  places_of_block no_block_items = []
  places_of_block (block_decl d is) = places_of_decl d ++ places_of_block is
  places_of_block (block_stmt s is) = places_of_stmt s ++ places_of_block is

  pub places_of_stmts : Stmts → List ℕ
  places_of_stmts no_stmts = []
  places_of_stmts (more_stmts s ss) = places_of_stmt s ++ places_of_stmts ss

  pub places_of_groups : Groups → List ℕ
  places_of_groups no_groups = []
  places_of_groups (more_groups ls ss gs) = places_of_stmts ss ++ places_of_groups gs
