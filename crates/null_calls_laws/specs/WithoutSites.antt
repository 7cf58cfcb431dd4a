-- A program whose sites are all 0: what it does doesn't depend on them.
use Rattle.std.specs.Prelude.{map}
use Rattle.c_meaning.specs.Tree.{Expr, constant, function_name, string_place, variable, dereference, load, address_of, decay, discard, field, unary_operation, conversion, arithmetic, comparison, pointer_add, pointer_diff, and, or, assign, update, conditional, comma, call, call_through}
use Rattle.c_meaning.specs.Tree.{Exprs, no_exprs, more_exprs, Maybe, absent, there, Inits, no_inits, more_inits}
use Rattle.c_meaning.specs.Tree.{Stmt, block, empty, evaluate, declare, if_else, while_loop, do_loop, for_loop, switch_on, break_off, continue_on, return_void, return_value, Stmts, no_stmts, more_stmts, Groups, no_groups, more_groups}
use Rattle.c_meaning.specs.Tree.{Function, Program}

abbrev mutual
  pub unsited : Expr → Expr
  unsited (constant t v) = constant t v
  unsited (function_name t f) = function_name t f
  unsited (string_place t n) = string_place t n
  unsited (variable t s n) = variable t s n
  unsited (dereference t a) = dereference t (unsited a)
  unsited (load t a) = load t (unsited a)
  unsited (address_of t a) = address_of t (unsited a)
  unsited (decay t a) = decay t (unsited a)
  unsited (discard t a) = discard t (unsited a)
  unsited (field t first a) = field t first (unsited a)
  unsited (unary_operation t op a) = unary_operation t op (unsited a)
  unsited (conversion t to a) = conversion t to (unsited a)
  unsited (arithmetic t op a b) = arithmetic t op (unsited a) (unsited b)
  unsited (comparison t op a b) = comparison t op (unsited a) (unsited b)
  unsited (pointer_add t first subtracted a b) = pointer_add t first subtracted (unsited a) (unsited b)
  unsited (pointer_diff t a b) = pointer_diff t (unsited a) (unsited b)
  unsited (and t a b) = and t (unsited a) (unsited b)
  unsited (or t a b) = or t (unsited a) (unsited b)
  unsited (assign t a b) = assign t (unsited a) (unsited b)
  unsited (update t op old a b) = update t op old (unsited a) (unsited b)
  unsited (conditional t c a b) = conditional t (unsited c) (unsited a) (unsited b)
  unsited (comma t es) = comma t (unsited_all es)
  unsited (call t site f es) = call t 0 f (unsited_all es)
  unsited (call_through t site d es) = call_through t 0 (unsited d) (unsited_all es)

  pub unsited_all : Exprs → Exprs
  unsited_all no_exprs = no_exprs
  unsited_all (more_exprs e es) = more_exprs (unsited e) (unsited_all es)

abbrev pub unsited_maybe : Maybe → Maybe
unsited_maybe absent = absent
unsited_maybe (there e) = there (unsited e)

abbrev pub unsited_inits : Inits → Inits
unsited_inits no_inits = no_inits
unsited_inits (more_inits cell e is) = more_inits cell (unsited e) (unsited_inits is)

abbrev mutual
  pub unsited_stmt : Stmt → Stmt
  unsited_stmt (block ss) = block (unsited_stmts ss)
  unsited_stmt empty = empty
  unsited_stmt (evaluate e) = evaluate (unsited e)
  unsited_stmt (declare x is) = declare x (unsited_inits is)
  unsited_stmt (if_else e s t) = if_else (unsited e) (unsited_stmt s) (unsited_stmt t)
  unsited_stmt (while_loop e s) = while_loop (unsited e) (unsited_stmt s)
  unsited_stmt (do_loop s e) = do_loop (unsited_stmt s) (unsited e)
  unsited_stmt (for_loop first test step s) =
      for_loop (unsited_stmts first) (unsited_maybe test) (unsited_maybe step) (unsited_stmt s)
  unsited_stmt (switch_on e gs) = switch_on (unsited e) (unsited_groups gs)
  unsited_stmt break_off = break_off
  unsited_stmt continue_on = continue_on
  unsited_stmt return_void = return_void
  unsited_stmt (return_value e) = return_value (unsited e)

  pub unsited_stmts : Stmts → Stmts
  unsited_stmts no_stmts = no_stmts
  unsited_stmts (more_stmts s ss) = more_stmts (unsited_stmt s) (unsited_stmts ss)

  pub unsited_groups : Groups → Groups
  unsited_groups no_groups = no_groups
  unsited_groups (more_groups ls ss gs) = more_groups ls (unsited_stmts ss) (unsited_groups gs)

abbrev pub unsited_function : Function → Function
unsited_function f = record f { body = unsited_stmt f.body }

abbrev pub without_sites : Program → Program
without_sites p = record p { functions = map unsited_function p.functions }
