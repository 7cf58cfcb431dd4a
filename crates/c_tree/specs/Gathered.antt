-- What is gathered from a typed tree: at each name of a function, and at each call in the order of their opening parentheses, so that a call stands behind those in its designator and before those in its arguments.
use Rattle.std.specs.Prelude.{ℕ, List, [], ◌∷◌, ◌++◌}
use Rattle.c_tree.specs.Tree.{CType, type_of}
use Rattle.c_tree.specs.Tree.{Expr, constant, function_name, string_place, variable, dereference, load, address_of, decay, discard, field, unary_operation, conversion, arithmetic, comparison, pointer_add, pointer_diff, and, or, assign, update, conditional, comma, call, call_through}
use Rattle.c_tree.specs.Tree.{Exprs, no_exprs, more_exprs, Maybe, absent, there, Inits, no_inits, more_inits}
use Rattle.c_tree.specs.Tree.{Stmt, block, empty, evaluate, declare, if_else, while_loop, do_loop, for_loop, switch_on, break_off, continue_on, return_void, return_value, Stmts, no_stmts, more_stmts, Groups, no_groups, more_groups}

-- what a name of a function gives, a call of a function by its name at a site, and one through a pointer of a type
pub record Gathering (X : Type 0) : Type 0 where
  pub named : ℕ → List X
  pub direct : ℕ → ℕ → X
  pub through : ℕ → CType → X

abbrev mutual
  pub gathered : {X : Type 0} → Gathering X → Expr → List X
  gathered g (constant t v) = []
  gathered g (function_name t f) = g.named f
  gathered g (string_place t n) = []
  gathered g (variable t is_static n) = []
  gathered g (dereference t a) = gathered g a
  gathered g (load t a) = gathered g a
  gathered g (address_of t a) = gathered g a
  gathered g (decay t a) = gathered g a
  gathered g (discard t a) = gathered g a
  gathered g (field t first a) = gathered g a
  gathered g (unary_operation t op a) = gathered g a
  gathered g (conversion t to a) = gathered g a
  gathered g (arithmetic t op a b) = gathered g a ++ gathered g b
  gathered g (comparison t op a b) = gathered g a ++ gathered g b
  gathered g (pointer_add t first subtracted a b) = gathered g a ++ gathered g b
  gathered g (pointer_diff t a b) = gathered g a ++ gathered g b
  gathered g (and t a b) = gathered g a ++ gathered g b
  gathered g (or t a b) = gathered g a ++ gathered g b
  gathered g (assign t a b) = gathered g a ++ gathered g b
  gathered g (update t op old a b) = gathered g a ++ gathered g b
  gathered g (conditional t c a b) = gathered g c ++ (gathered g a ++ gathered g b)
  gathered g (comma t es) = gathered_all g es
  gathered g (call t site f es) = g.direct site f ∷ gathered_all g es
  gathered g (call_through t site a es) = gathered g a ++ g.through site (type_of a) ∷ gathered_all g es

  pub gathered_all : {X : Type 0} → Gathering X → Exprs → List X
  gathered_all g no_exprs = []
  gathered_all g (more_exprs e es) = gathered g e ++ gathered_all g es

abbrev pub gathered_maybe : {X : Type 0} → Gathering X → Maybe → List X
gathered_maybe g absent = []
gathered_maybe g (there e) = gathered g e

abbrev pub gathered_inits : {X : Type 0} → Gathering X → Inits → List X
gathered_inits g no_inits = []
gathered_inits g (more_inits cell e is) = gathered g e ++ gathered_inits g is

abbrev mutual
  pub gathered_stmt : {X : Type 0} → Gathering X → Stmt → List X
  gathered_stmt g (block ss) = gathered_stmts g ss
  gathered_stmt g empty = []
  gathered_stmt g (evaluate e) = gathered g e
  gathered_stmt g (declare x is) = gathered_inits g is
  gathered_stmt g (if_else e s u) = gathered g e ++ (gathered_stmt g s ++ gathered_stmt g u)
  gathered_stmt g (while_loop e s) = gathered g e ++ gathered_stmt g s
  gathered_stmt g (do_loop s e) = gathered_stmt g s ++ gathered g e
  gathered_stmt g (for_loop first test step s) =
      gathered_stmts g first ++ (gathered_maybe g test ++ (gathered_maybe g step ++ gathered_stmt g s))
  gathered_stmt g (switch_on e gs) = gathered g e ++ gathered_groups g gs
  gathered_stmt g break_off = []
  gathered_stmt g continue_on = []
  gathered_stmt g return_void = []
  gathered_stmt g (return_value e) = gathered g e

  pub gathered_stmts : {X : Type 0} → Gathering X → Stmts → List X
  gathered_stmts g no_stmts = []
  gathered_stmts g (more_stmts s ss) = gathered_stmt g s ++ gathered_stmts g ss

  pub gathered_groups : {X : Type 0} → Gathering X → Groups → List X
  gathered_groups g no_groups = []
  gathered_groups g (more_groups ls ss gs) = gathered_stmts g ss ++ gathered_groups g gs
