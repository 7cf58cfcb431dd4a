-- Which functions a typed program calls by their names.
use Rattle.std.specs.Prelude.{ℕ, ◌+◌, ◌<◌, List, [], ◌∷◌, length}
use Rattle.c_tree.specs.Tree.{Expr, constant, function_name, string_place, variable, dereference, load, address_of, decay, discard, field, unary_operation, conversion, arithmetic, comparison, pointer_add, pointer_diff, and, or, assign, update, conditional, comma, call, call_through}
use Rattle.c_tree.specs.Tree.{Exprs, no_exprs, more_exprs, Maybe, absent, there, Inits, no_inits, more_inits}
use Rattle.c_tree.specs.Tree.{Stmt, block, empty, evaluate, declare, if_else, while_loop, do_loop, for_loop, switch_on, break_off, continue_on, return_void, return_value, Stmts, no_stmts, more_stmts, Groups, no_groups, more_groups, Function, Program}

-- each direct call is one of a function with a number below this one
abbrev mutual
  pub CallsBelow : ℕ → Expr → Type 0
  CallsBelow n (constant t v) = Unit {0}
  CallsBelow n (function_name t f) = Unit {0}
  CallsBelow n (string_place t k) = Unit {0}
  CallsBelow n (variable t s k) = Unit {0}
  CallsBelow n (dereference t a) = CallsBelow n a
  CallsBelow n (load t a) = CallsBelow n a
  CallsBelow n (address_of t a) = CallsBelow n a
  CallsBelow n (decay t a) = CallsBelow n a
  CallsBelow n (discard t a) = CallsBelow n a
  CallsBelow n (field t first a) = CallsBelow n a
  CallsBelow n (unary_operation t op a) = CallsBelow n a
  CallsBelow n (conversion t to a) = CallsBelow n a
  CallsBelow n (arithmetic t op a b) = CallsBelow n a × CallsBelow n b
  CallsBelow n (comparison t op a b) = CallsBelow n a × CallsBelow n b
  CallsBelow n (pointer_add t first subtracted a b) = CallsBelow n a × CallsBelow n b
  CallsBelow n (pointer_diff t a b) = CallsBelow n a × CallsBelow n b
  CallsBelow n (and t a b) = CallsBelow n a × CallsBelow n b
  CallsBelow n (or t a b) = CallsBelow n a × CallsBelow n b
  CallsBelow n (assign t a b) = CallsBelow n a × CallsBelow n b
  CallsBelow n (update t op old a b) = CallsBelow n a × CallsBelow n b
  CallsBelow n (conditional t c a b) = CallsBelow n c × CallsBelow n a × CallsBelow n b
  CallsBelow n (comma t es) = AllBelow n es
  CallsBelow n (call t site f es) = (f < n) × AllBelow n es
  CallsBelow n (call_through t site a es) = CallsBelow n a × AllBelow n es

  pub AllBelow : ℕ → Exprs → Type 0
  AllBelow n no_exprs = Unit {0}
  AllBelow n (more_exprs e es) = CallsBelow n e × AllBelow n es

abbrev pub MaybeBelow : ℕ → Maybe → Type 0
MaybeBelow n absent = Unit {0}
MaybeBelow n (there e) = CallsBelow n e

abbrev pub InitsBelow : ℕ → Inits → Type 0
InitsBelow n no_inits = Unit {0}
InitsBelow n (more_inits cell e is) = CallsBelow n e × InitsBelow n is

abbrev mutual
  pub StmtBelow : ℕ → Stmt → Type 0
  StmtBelow n (block ss) = StmtsBelow n ss
  StmtBelow n empty = Unit {0}
  StmtBelow n (evaluate e) = CallsBelow n e
  StmtBelow n (declare x is) = InitsBelow n is
  StmtBelow n (if_else e s t) = CallsBelow n e × StmtBelow n s × StmtBelow n t
  StmtBelow n (while_loop e s) = CallsBelow n e × StmtBelow n s
  StmtBelow n (do_loop s e) = StmtBelow n s × CallsBelow n e
  StmtBelow n (for_loop first test step s) = StmtsBelow n first × MaybeBelow n test × MaybeBelow n step × StmtBelow n s
  StmtBelow n (switch_on e gs) = CallsBelow n e × GroupsBelow n gs
  StmtBelow n break_off = Unit {0}
  StmtBelow n continue_on = Unit {0}
  StmtBelow n return_void = Unit {0}
  StmtBelow n (return_value e) = CallsBelow n e

  pub StmtsBelow : ℕ → Stmts → Type 0
  StmtsBelow n no_stmts = Unit {0}
  StmtsBelow n (more_stmts s ss) = StmtBelow n s × StmtsBelow n ss

  pub GroupsBelow : ℕ → Groups → Type 0
  GroupsBelow n no_groups = Unit {0}
  GroupsBelow n (more_groups ls ss gs) = StmtsBelow n ss × GroupsBelow n gs

abbrev pub FunctionsBelow : ℕ → List Function → Type 0
FunctionsBelow n [] = Unit {0}
FunctionsBelow n (f ∷ fs) = StmtBelow n f.body × FunctionsBelow n fs

-- the program calls defined functions and system calls alone: the null calls are numbered after them
abbrev pub CallsNoNullCall : Program → Type 0
CallsNoNullCall p = FunctionsBelow (length p.functions + 24) p.functions
