-- For private contracts and proofs alone: what a machine has left to do before it next enters a function or tests a loop, as a number that each step of it makes less.
use Rattle.std.specs.Prelude.{ℕ, ◌+◌, List, [], ◌∷◌}
use Rattle.c_tree.specs.Tree.{Expr, constant, function_name, string_place, variable, dereference, load, address_of, decay, discard, field, unary_operation, conversion, arithmetic, comparison, pointer_add, pointer_diff, and, or, assign, update, conditional, comma, call, call_through}
use Rattle.c_tree.specs.Tree.{Exprs, no_exprs, more_exprs, Maybe, absent, there, Inits, no_inits, more_inits}
use Rattle.c_tree.specs.Tree.{Stmt, block, empty, evaluate, declare, if_else, while_loop, do_loop, for_loop, switch_on, break_off, continue_on, return_void, return_value, Stmts, no_stmts, more_stmts, Groups, no_groups, more_groups}
use Rattle.c_tree.specs.View.{expr_of, exprs_of, inits_of, stmt_of, stmts_of, groups_of}
use Rattle.c_meaning.specs.Meaning.{Loop}
use Rattle.ref_machine_frames.specs.declared.frames.Valued.{Valued}
use Rattle.ref_machine_frames.specs.declared.frames.Valued.TheVariants as valued
use Rattle.ref_machine_frames.specs.declared.frames.Parted.{Parted}
use Rattle.ref_machine_frames.specs.declared.frames.Parted.TheVariants as parted
use Rattle.ref_machine_frames.specs.declared.frames.Storing.{Storing}
use Rattle.ref_machine_frames.specs.declared.frames.Storing.TheVariants as storings
use Rattle.ref_machine_frames.specs.declared.frames.Choice.{Choice}
use Rattle.ref_machine_frames.specs.declared.frames.Choice.TheVariants as choices
use Rattle.ref_machine_frames.specs.declared.frames.ValueFrame.{ValueFrame}
use Rattle.ref_machine_frames.specs.declared.frames.ValueFrame.TheVariants as values
use Rattle.ref_machine_frames.specs.declared.frames.StatementFrame.{StatementFrame}
use Rattle.ref_machine_frames.specs.declared.frames.StatementFrame.TheVariants as statements
use Rattle.ref_machine_frames.specs.declared.frames.ExitFrame.{ExitFrame}
use Rattle.ref_machine_frames.specs.declared.frames.ExitFrame.TheVariants as exits
use Rattle.ref_machine_frames.specs.declared.frames.Frame.{Frame}
use Rattle.ref_machine_frames.specs.declared.frames.Frame.TheVariants as frames
use Rattle.ref_machine_frames.specs.declared.frames.Now.{Now}
use Rattle.ref_machine_frames.specs.declared.frames.Now.TheVariants as nows
use Rattle.ref_machine_frames.specs.Frames.{rounds_of}

abbrev mutual
  pub of_expr : Expr → ℕ
  of_expr (constant t v) = 1
  of_expr (function_name t f) = 1
  of_expr (string_place t n) = 1
  of_expr (variable t s n) = 1
  of_expr (dereference t a) = 2 + of_expr a
  of_expr (load t a) = 2 + of_expr a
  of_expr (address_of t a) = 2 + of_expr a
  of_expr (decay t a) = 2 + of_expr a
  of_expr (discard t a) = 2 + of_expr a
  of_expr (field t first a) = 2 + of_expr a
  of_expr (unary_operation t op a) = 2 + of_expr a
  of_expr (conversion t to a) = 2 + of_expr a
  of_expr (arithmetic t op a b) = 3 + (of_expr a + of_expr b)
  of_expr (comparison t op a b) = 3 + (of_expr a + of_expr b)
  of_expr (pointer_add t first subtracted a b) = 3 + (of_expr a + of_expr b)
  of_expr (pointer_diff t a b) = 3 + (of_expr a + of_expr b)
  of_expr (and t a b) = 3 + (of_expr a + of_expr b)
  of_expr (or t a b) = 3 + (of_expr a + of_expr b)
  of_expr (assign t a b) = 3 + (of_expr a + of_expr b)
  of_expr (update t op old a b) = 3 + (of_expr a + of_expr b)
  of_expr (conditional t c a b) = 2 + (of_expr c + (of_expr a + of_expr b))
  of_expr (comma t es) = 1 + of_exprs es
  of_expr (call t site f es) = 2 + of_exprs es
  of_expr (call_through t site a es) = 3 + (of_expr a + of_exprs es)

  pub of_exprs : Exprs → ℕ
  of_exprs no_exprs = 0
  of_exprs (more_exprs e es) = 1 + (of_expr e + of_exprs es)

abbrev pub of_maybe : Maybe → ℕ
of_maybe absent = 0
of_maybe (there e) = of_expr e

abbrev pub of_inits : Inits → ℕ
of_inits no_inits = 0
of_inits (more_inits cell e is) = 1 + (of_expr e + of_inits is)

-- the body of a loop isn't counted before the loop is tested
abbrev mutual
  pub of_stmt : Stmt → ℕ
  of_stmt (block ss) = 2 + of_stmts ss
  of_stmt empty = 1
  of_stmt (evaluate e) = 2 + of_expr e
  of_stmt (declare x is) = 1 + of_inits is
  of_stmt (if_else e s r) = 2 + (of_expr e + (of_stmt s + of_stmt r))
  of_stmt (while_loop e s) = 2
  of_stmt (do_loop s e) = 4 + of_stmt s
  of_stmt (for_loop first test step s) = 4 + of_stmts first
  of_stmt (switch_on e gs) = 3 + (of_expr e + of_groups gs)
  of_stmt break_off = 1
  of_stmt continue_on = 1
  of_stmt return_void = 1
  of_stmt (return_value e) = 2 + of_expr e

  pub of_stmts : Stmts → ℕ
  of_stmts no_stmts = 0
  of_stmts (more_stmts s ss) = 1 + (of_stmt s + of_stmts ss)

  pub of_groups : Groups → ℕ
  of_groups no_groups = 0
  of_groups (more_groups labels ss gs) = 1 + (of_stmts ss + of_groups gs)

-- after a round of a loop, and in one
abbrev pub of_step : Loop → ℕ
of_step l = 3 + of_maybe l.step

abbrev pub of_round : Loop → ℕ
of_round l = of_stmt l.body + of_step l

abbrev pub of_branches : Stmt → ℕ
of_branches (if_else e s r) = of_stmt s + of_stmt r
of_branches s = 0

abbrev pub of_cases : Stmt → ℕ
of_cases (switch_on e gs) = of_groups gs
of_cases s = 0

abbrev pub of_storing : Storing → ℕ
of_storing (storings.Place e) = 2 + of_expr (expr_of e.now)
of_storing (storings.Value q) = 1
of_storing (storings.Old op old t e) = 2 + of_expr (expr_of e.now)
of_storing (storings.New op old t u q before) = 1

abbrev pub of_choice : Choice → ℕ
of_choice (choices.And e) = 1 + of_expr (expr_of e.now)
of_choice (choices.Or e) = 1 + of_expr (expr_of e.now)
of_choice choices.Truth = 0
of_choice (choices.Cond wanted a b) = of_expr (expr_of a.now) + of_expr (expr_of b.now)

abbrev pub of_value_frame : ValueFrame → ℕ
of_value_frame (values.One step) = 1
of_value_frame (values.First pair e) = 2 + of_expr (expr_of e.now)
of_value_frame (values.Second pair v) = 1
of_value_frame (values.Store s) = of_storing s
of_value_frame (values.Test c) = 1 + of_choice c
of_value_frame (values.Members wanted rest) = 1 + of_exprs (exprs_of rest.now)
of_value_frame (values.Designator wanted es) = 2 + of_exprs (exprs_of es.now)
of_value_frame (values.Argument wanted f before rest) = 2 + of_exprs (exprs_of rest.now)

abbrev pub of_part : Valued → Stmt → ℕ
of_part valued.If s = 1 + of_branches s
of_part valued.Switch s = 2 + of_cases s
of_part valued.Test s = 1 + of_round (rounds_of s)
of_part valued.Step s = 2

abbrev pub of_statement_frame : StatementFrame → ℕ
of_statement_frame statements.Forget = 1
of_statement_frame statements.Give = 1
of_statement_frame (statements.Initialise x cell rest) = 1 + of_inits (inits_of rest.now)
of_statement_frame (statements.Part part s) = of_part part (stmt_of s.now)

abbrev pub of_parted : Parted → Stmt → ℕ
of_parted parted.Whole s = 1
of_parted parted.Round s = of_step (rounds_of s)
of_parted parted.Head s = 2

abbrev pub of_exit_frame : ExitFrame → ℕ
of_exit_frame (exits.Statements ss) = 1 + of_stmts (stmts_of ss.now)
of_exit_frame (exits.Groups gs) = 1 + of_groups (groups_of gs.now)
of_exit_frame exits.Switch = 1
of_exit_frame (exits.Part part s) = of_parted part (stmt_of s.now)

abbrev pub of_frame : Frame → ℕ
of_frame (frames.Value f) = of_value_frame f
of_frame (frames.Statement f) = of_statement_frame f
of_frame (frames.Exit f) = of_exit_frame f
of_frame (frames.Call c) = 1

abbrev pub of_all : List Frame → ℕ
of_all [] = 0
of_all (f ∷ k) = of_frame f + of_all k

-- to enter a function and to test a loop costs a turn
abbrev pub of_now : Now → ℕ
of_now (nows.Eval wanted e) = of_expr (expr_of e.now)
of_now (nows.Have v) = 0
of_now (nows.Exec s) = of_stmt (stmt_of s.now)
of_now (nows.Left x) = 0
of_now (nows.Enter wanted f vs) = 1
of_now (nows.Test s) = 1
of_now (nows.Ask x q) = 0
of_now (nows.Told e next) = 0
of_now (nows.Stopped o) = 0
of_now nows.Mistyped = 0

-- what comes next, and all that is left to do after it
abbrev pub work : Now → List Frame → ℕ
work now todo = of_now now + of_all todo

-- whether there is a next step that costs none
abbrev pub of_bit : Now → ℕ
of_bit (nows.Eval wanted e) = 1
of_bit (nows.Have v) = 1
of_bit (nows.Exec s) = 1
of_bit (nows.Left x) = 1
of_bit (nows.Enter wanted f vs) = 0
of_bit (nows.Test s) = 0
of_bit (nows.Ask x q) = 0
of_bit (nows.Told e next) = 0
of_bit (nows.Stopped o) = 0
of_bit nows.Mistyped = 0
