-- Programs that make no null calls: no call names one of the two functions that stand for them.
use Rattle.std.specs.Prelude.{◌≡◌, ◌≢◌, ℕ, ◌+◌, Some, slice_get}
use Rattle.c_tree.specs.Tree.{Expr, constant, function_name, string_place, variable, dereference, load, address_of, decay, discard, field, unary_operation, conversion, arithmetic, comparison, pointer_add, pointer_diff, and, or, assign, update, conditional, comma, call, call_through}
use Rattle.c_tree.specs.Tree.{Exprs, no_exprs, more_exprs, Maybe, absent, there, Inits, no_inits, more_inits}
use Rattle.c_tree.specs.Tree.{Stmt, block, empty, evaluate, declare, if_else, while_loop, do_loop, for_loop, switch_on, break_off, continue_on, return_void, return_value, Stmts, no_stmts, more_stmts, Groups, no_groups, more_groups}
use Rattle.c_tree.specs.Tree.{Function, Program}
use Rattle.c_tree.specs.Functions.{defined}

-- Where n functions are defined, the numbers n + 24 and n + 25 stand for the two null calls.
module _ (n : ℕ) where
  abbrev mutual
    -- the expression makes no null call
    pub IsFree : Expr → Type 0
    IsFree (constant t v) = Unit {0}
    IsFree (function_name t f) = Unit {0}
    IsFree (string_place t k) = Unit {0}
    IsFree (variable t is_static k) = Unit {0}
    IsFree (dereference t a) = IsFree a
    IsFree (load t a) = IsFree a
    IsFree (address_of t a) = IsFree a
    IsFree (decay t a) = IsFree a
    IsFree (discard t a) = IsFree a
    IsFree (field t first a) = IsFree a
    IsFree (unary_operation t op a) = IsFree a
    IsFree (conversion t to a) = IsFree a
    IsFree (arithmetic t op a b) = IsFree a × IsFree b
    IsFree (comparison t op a b) = IsFree a × IsFree b
    IsFree (pointer_add t first subtracted a b) = IsFree a × IsFree b
    IsFree (pointer_diff t a b) = IsFree a × IsFree b
    IsFree (and t a b) = IsFree a × IsFree b
    IsFree (or t a b) = IsFree a × IsFree b
    IsFree (assign t a b) = IsFree a × IsFree b
    IsFree (update t op old a b) = IsFree a × IsFree b
    IsFree (conditional t c a b) = IsFree c × IsFree a × IsFree b
    IsFree (comma t es) = AreFree es
    IsFree (call t site f es) = (f ≢ n + 24) × (f ≢ n + 25) × AreFree es
    IsFree (call_through t site a es) = IsFree a × AreFree es

    pub AreFree : Exprs → Type 0
    AreFree no_exprs = Unit {0}
    AreFree (more_exprs e es) = IsFree e × AreFree es

  abbrev pub IsFreeMaybe : Maybe → Type 0
  IsFreeMaybe absent = Unit {0}
  IsFreeMaybe (there e) = IsFree e

  abbrev pub AreFreeInits : Inits → Type 0
  AreFreeInits no_inits = Unit {0}
  AreFreeInits (more_inits cell e is) = IsFree e × AreFreeInits is

  abbrev mutual
    -- the statement makes no null call
    pub IsFreeStmt : Stmt → Type 0
    IsFreeStmt (block ss) = AreFreeStmts ss
    IsFreeStmt empty = Unit {0}
    IsFreeStmt (evaluate e) = IsFree e
    IsFreeStmt (declare x is) = AreFreeInits is
    IsFreeStmt (if_else e s r) = IsFree e × IsFreeStmt s × IsFreeStmt r
    IsFreeStmt (while_loop e s) = IsFree e × IsFreeStmt s
    IsFreeStmt (do_loop s e) = IsFreeStmt s × IsFree e
    IsFreeStmt (for_loop first test step s) = AreFreeStmts first × IsFreeMaybe test × IsFreeMaybe step × IsFreeStmt s
    IsFreeStmt (switch_on e gs) = IsFree e × AreFreeGroups gs
    IsFreeStmt break_off = Unit {0}
    IsFreeStmt continue_on = Unit {0}
    IsFreeStmt return_void = Unit {0}
    IsFreeStmt (return_value e) = IsFree e

    pub AreFreeStmts : Stmts → Type 0
    AreFreeStmts no_stmts = Unit {0}
    AreFreeStmts (more_stmts s ss) = IsFreeStmt s × AreFreeStmts ss

    pub AreFreeGroups : Groups → Type 0
    AreFreeGroups no_groups = Unit {0}
    AreFreeGroups (more_groups labels ss gs) = AreFreeStmts ss × AreFreeGroups gs

-- no function of the program makes a null call
abbrev pub MakesNoNullCall : Program → Type 0
MakesNoNullCall p =
    (f : ℕ) (g : Function) → slice_get p.functions f ≡ Some g → IsFreeStmt (defined p) g.body
