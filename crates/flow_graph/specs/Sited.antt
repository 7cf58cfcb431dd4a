-- For private contracts and proofs alone: the shapes of a program that defines so many functions and whose sites tell which calls are marked.
use Rattle.std.specs.Prelude.{ℕ, ◌-◌, Bool, true, false, nat_lt, List, slice_index_or, if◌then◌else◌}
use Rattle.c_tree.specs.Tree.{Expr, constant, function_name, string_place, variable, dereference, load, address_of, decay, discard, field, unary_operation, conversion, arithmetic, comparison, pointer_add, pointer_diff, and, or, assign, update, conditional, comma, call, call_through}
use Rattle.c_tree.specs.Tree.{Exprs, no_exprs, more_exprs, Maybe, absent, there, Inits, no_inits, more_inits}
use Rattle.c_tree.specs.Tree.{Stmt, block, empty, evaluate, declare, if_else, while_loop, do_loop, for_loop, switch_on, break_off, continue_on, return_void, return_value, Stmts, no_stmts, more_stmts, Groups, no_groups, more_groups}
use Rattle.c_tree.specs.Constants.{pattern_of}
use Rattle.c_meaning.specs.Shape.{Shape, Skip, Call, Loop, Do, Cases, Break, Continue, Return, Parts, End, Part}
use Rattle.c_meaning.specs.ShapeOf.{seq, seq_two, alt, system_call, has_default}

-- the call at a site, where the site is marked
abbrev pub call_at : List Bool → ℕ → Shape
call_at ms s = if slice_index_or ms s false then Call s else Skip

-- a direct call: of a defined function, of a system call with the pattern of its arguments, or a null call
abbrev pub direct_at : ℕ → List Bool → ℕ → ℕ → Exprs → Shape
direct_at n ms s f es =
    if nat_lt f n
    then call_at ms s
    else if nat_lt (f - n) 24 then system_call (f - n) (pattern_of (f - n) es) else Skip

abbrev mutual
  pub expr_at : ℕ → List Bool → Expr → Shape
  expr_at n ms (constant t v) = Skip
  expr_at n ms (function_name t f) = Skip
  expr_at n ms (string_place t k) = Skip
  expr_at n ms (variable t is_static k) = Skip
  expr_at n ms (dereference t a) = expr_at n ms a
  expr_at n ms (load t a) = expr_at n ms a
  expr_at n ms (address_of t a) = expr_at n ms a
  expr_at n ms (decay t a) = expr_at n ms a
  expr_at n ms (discard t a) = expr_at n ms a
  expr_at n ms (field t first a) = expr_at n ms a
  expr_at n ms (unary_operation t op a) = expr_at n ms a
  expr_at n ms (conversion t to a) = expr_at n ms a
  expr_at n ms (arithmetic t op a b) = seq_two (expr_at n ms a) (expr_at n ms b)
  expr_at n ms (comparison t op a b) = seq_two (expr_at n ms a) (expr_at n ms b)
  expr_at n ms (pointer_add t first subtracted a b) = seq_two (expr_at n ms a) (expr_at n ms b)
  expr_at n ms (pointer_diff t a b) = seq_two (expr_at n ms a) (expr_at n ms b)
  expr_at n ms (and t a b) = seq_two (expr_at n ms a) (alt (expr_at n ms b) Skip)
  expr_at n ms (or t a b) = seq_two (expr_at n ms a) (alt (expr_at n ms b) Skip)
  expr_at n ms (assign t a b) = seq_two (expr_at n ms a) (expr_at n ms b)
  expr_at n ms (update t op old a b) = seq_two (expr_at n ms a) (expr_at n ms b)
  expr_at n ms (conditional t c a b) = seq_two (expr_at n ms c) (alt (expr_at n ms a) (expr_at n ms b))
  expr_at n ms (comma t es) = seq (exprs_at n ms es End)
  -- the arguments, and the call
  expr_at n ms (call t s f es) = seq (exprs_at n ms es (Part (direct_at n ms s f es) End))
  -- the designator, the arguments, and the call
  expr_at n ms (call_through t s a es) =
      seq (Part (expr_at n ms a) (exprs_at n ms es (Part (call_at ms s) End)))

  -- those of expressions, before other parts
  pub exprs_at : ℕ → List Bool → Exprs → Parts → Parts
  exprs_at n ms no_exprs ps = ps
  exprs_at n ms (more_exprs e es) ps = Part (expr_at n ms e) (exprs_at n ms es ps)

abbrev pub maybe_at : ℕ → List Bool → Maybe → Shape
maybe_at n ms absent = Skip
maybe_at n ms (there e) = expr_at n ms e

abbrev pub inits_at : ℕ → List Bool → Inits → Parts
inits_at n ms no_inits = End
inits_at n ms (more_inits cell e is) = Part (expr_at n ms e) (inits_at n ms is)

abbrev mutual
  pub stmt_at : ℕ → List Bool → Stmt → Shape
  stmt_at n ms (block ss) = seq (stmts_at n ms ss)
  stmt_at n ms empty = Skip
  stmt_at n ms (evaluate e) = expr_at n ms e
  stmt_at n ms (declare x is) = seq (inits_at n ms is)
  stmt_at n ms (if_else e s u) = seq_two (expr_at n ms e) (alt (stmt_at n ms s) (stmt_at n ms u))
  stmt_at n ms (while_loop e s) = Loop (expr_at n ms e) (stmt_at n ms s) Skip
  stmt_at n ms (do_loop s e) = Do (stmt_at n ms s) (expr_at n ms e)
  stmt_at n ms (for_loop first test step s) =
      seq_two (seq (stmts_at n ms first)) (Loop (maybe_at n ms test) (stmt_at n ms s) (maybe_at n ms step))
  stmt_at n ms (switch_on e gs) = seq_two (expr_at n ms e) (Cases (groups_at n ms gs) (has_default gs))
  stmt_at n ms break_off = Break
  stmt_at n ms continue_on = Continue
  stmt_at n ms return_void = Return
  stmt_at n ms (return_value e) = seq_two (expr_at n ms e) Return

  pub stmts_at : ℕ → List Bool → Stmts → Parts
  stmts_at n ms no_stmts = End
  stmts_at n ms (more_stmts s ss) = Part (stmt_at n ms s) (stmts_at n ms ss)

  -- one shape for the statements after each group of labels
  pub groups_at : ℕ → List Bool → Groups → Parts
  groups_at n ms no_groups = End
  groups_at n ms (more_groups ls ss gs) = Part (seq (stmts_at n ms ss)) (groups_at n ms gs)
