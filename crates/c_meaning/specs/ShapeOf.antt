-- The shape of each form of C, by a table: expressions are read in the order of their evaluation (C99 6.5, 6.8).
use Rattle.std.specs.Prelude.{ℕ, ◌+◌, ◌-◌, Bool, true, false, ◌||◌, nat_eq, nat_lt, List, [], ◌∷◌, ◌++◌, map, length, filter, Option, None, ℤ, if◌then◌else◌}
use Rattle.std.specs.List.{range_with_len}
use Rattle.c_tree.specs.Table.{recorded_of, name_of}
use Rattle.c_tree.specs.declared.tree.TLabel.{TLabel}
use Rattle.c_tree.specs.declared.tree.TLabel.TheVariants.{Case, Default}
use Rattle.c_tree.specs.Tree.{Expr, constant, function_name, string_place, variable, dereference, load, address_of, decay, discard, field, unary_operation, conversion, arithmetic, comparison, pointer_add, pointer_diff, and, or, assign, update, conditional, comma, call, call_through, type_of}
use Rattle.c_tree.specs.Tree.{Exprs, no_exprs, more_exprs, Maybe, absent, there, Inits, no_inits, more_inits}
use Rattle.c_tree.specs.Tree.{Stmt, block, empty, evaluate, declare, if_else, while_loop, do_loop, for_loop, switch_on, break_off, continue_on, return_void, return_value, Stmts, no_stmts, more_stmts, Groups, no_groups, more_groups}
use Rattle.c_tree.specs.Tree.{Function, Program}
use Rattle.c_tree.specs.Functions.{defined}
use Rattle.c_tree.specs.Constants.{pattern_of}
use Rattle.c_meaning.specs.Shape.{Shape, Skip, Sys, Exit, Call, Seq, Alt, Loop, Do, Cases, Break, Continue, Return, Parts, End, Part, Shapes, exit_call}
use Rattle.c_meaning.specs.Mentions.{Callee, Direct, Through}
use Rattle.c_meaning.specs.CallGraph.{is_taken, is_marked, marked, candidates}

-- a part before others, unless it is Skip
abbrev pub before_parts : Shape → Parts → Parts
before_parts Skip ps = ps
before_parts S ps = Part S ps

-- the parts that aren't Skip
abbrev pub without_skips : Parts → Parts
without_skips End = End
without_skips (Part S ps) = before_parts S (without_skips ps)

-- nothing is Skip, one part is itself
abbrev pub in_turn : Parts → Shape
in_turn End = Skip
in_turn (Part S End) = S
in_turn (Part S (Part T ps)) = Seq S (Part T ps)

-- the parts in turn, those that are Skip left out
abbrev pub seq : Parts → Shape
seq ps = in_turn (without_skips ps)

abbrev pub seq_two : Shape → Shape → Shape
seq_two S T = seq (Part S (Part T End))

-- one of two, and Skip where both are Skip
abbrev pub alt : Shape → Shape → Shape
alt Skip Skip = Skip
alt S T = Alt S T

-- a call of the system call with this number
abbrev pub system_call : ℕ → List (Option ℤ) → Shape
system_call x q = if nat_eq x exit_call then Exit q else Sys x q

-- a call at a site, where null calls stand round it
abbrev pub marked_call : Program → ℕ → Callee → Shape
marked_call p s callee = if is_marked p callee then Call s else Skip

-- a direct call: of a defined function, of a system call with the pattern of its arguments, or a null call
abbrev pub direct_call : Program → ℕ → ℕ → Exprs → Shape
direct_call p s f es =
    if nat_lt f (defined p)
    then marked_call p s (Direct f)
    else if nat_lt (f - defined p) 24 then system_call (f - defined p) (pattern_of (f - defined p) es) else Skip

abbrev mutual
  pub shape : Program → Expr → Shape
  shape p (constant t v) = Skip
  shape p (function_name t f) = Skip
  shape p (string_place t n) = Skip
  shape p (variable t is_static n) = Skip
  shape p (dereference t a) = shape p a
  shape p (load t a) = shape p a
  shape p (address_of t a) = shape p a
  shape p (decay t a) = shape p a
  shape p (discard t a) = shape p a
  shape p (field t first a) = shape p a
  shape p (unary_operation t op a) = shape p a
  shape p (conversion t to a) = shape p a
  shape p (arithmetic t op a b) = seq_two (shape p a) (shape p b)
  shape p (comparison t op a b) = seq_two (shape p a) (shape p b)
  shape p (pointer_add t first subtracted a b) = seq_two (shape p a) (shape p b)
  shape p (pointer_diff t a b) = seq_two (shape p a) (shape p b)
  shape p (and t a b) = seq_two (shape p a) (alt (shape p b) Skip)
  shape p (or t a b) = seq_two (shape p a) (alt (shape p b) Skip)
  shape p (assign t a b) = seq_two (shape p a) (shape p b)
  shape p (update t op old a b) = seq_two (shape p a) (shape p b)
  shape p (conditional t c a b) = seq_two (shape p c) (alt (shape p a) (shape p b))
  shape p (comma t es) = seq (shapes_before p es End)
  -- the arguments, and the call
  shape p (call t s f es) = seq (shapes_before p es (Part (direct_call p s f es) End))
  -- the designator, the arguments, and the call
  shape p (call_through t s a es) =
      seq (Part (shape p a) (shapes_before p es (Part (marked_call p s (Through (type_of a))) End)))

  -- those of expressions, before other parts
  pub shapes_before : Program → Exprs → Parts → Parts
  shapes_before p no_exprs ps = ps
  shapes_before p (more_exprs e es) ps = Part (shape p e) (shapes_before p es ps)

abbrev pub shape_of_maybe : Program → Maybe → Shape
shape_of_maybe p absent = Skip
shape_of_maybe p (there e) = shape p e

abbrev pub shapes_of_inits : Program → Inits → Parts
shapes_of_inits p no_inits = End
shapes_of_inits p (more_inits cell e is) = Part (shape p e) (shapes_of_inits p is)

-- whether `default` is one of the labels
abbrev pub has_default_label : List TLabel → Bool
has_default_label [] = false
has_default_label (Case v ∷ ls) = has_default_label ls
has_default_label (Default ∷ ls) = true

abbrev pub has_default : Groups → Bool
has_default no_groups = false
has_default (more_groups ls ss gs) = has_default_label ls || has_default gs

abbrev mutual
  pub shape_of_stmt : Program → Stmt → Shape
  shape_of_stmt p (block ss) = seq (shapes_of_stmts p ss)
  shape_of_stmt p empty = Skip
  shape_of_stmt p (evaluate e) = shape p e
  shape_of_stmt p (declare x is) = seq (shapes_of_inits p is)
  shape_of_stmt p (if_else e s u) = seq_two (shape p e) (alt (shape_of_stmt p s) (shape_of_stmt p u))
  shape_of_stmt p (while_loop e s) = Loop (shape p e) (shape_of_stmt p s) Skip
  shape_of_stmt p (do_loop s e) = Do (shape_of_stmt p s) (shape p e)
  shape_of_stmt p (for_loop first test step s) =
      seq_two (seq (shapes_of_stmts p first)) (Loop (shape_of_maybe p test) (shape_of_stmt p s) (shape_of_maybe p step))
  shape_of_stmt p (switch_on e gs) = seq_two (shape p e) (Cases (shapes_of_groups p gs) (has_default gs))
  shape_of_stmt p break_off = Break
  shape_of_stmt p continue_on = Continue
  shape_of_stmt p return_void = Return
  shape_of_stmt p (return_value e) = seq_two (shape p e) Return

  pub shapes_of_stmts : Program → Stmts → Parts
  shapes_of_stmts p no_stmts = End
  shapes_of_stmts p (more_stmts s ss) = Part (shape_of_stmt p s) (shapes_of_stmts p ss)

  -- one shape for the statements after each group of labels
  pub shapes_of_groups : Program → Groups → Parts
  shapes_of_groups p no_groups = End
  shapes_of_groups p (more_groups ls ss gs) = Part (seq (shapes_of_stmts p ss)) (shapes_of_groups p gs)

abbrev pub shape_of_function : Program → Function → Shape
shape_of_function p f = shape_of_stmt p f.body

-- the system calls whose names are taken, in the order of their numbers
abbrev pub taken_calls : Program → List ℕ
taken_calls p = filter (λ x. is_taken p (defined p + x)) (range_with_len 0 24)

-- a system call as a function, whose arguments may be any
abbrev pub any_call : ℕ → Shape
any_call x = system_call x (map (λ kind. None) (recorded_of x))

-- the functions that may be entered: the defined ones in order, then the taken system calls
abbrev pub shapes_of_functions : Program → List Shape
shapes_of_functions p = map (shape_of_function p) p.functions ++ map any_call (taken_calls p)

abbrev pub names_of_functions : Program → List (List ℕ)
names_of_functions p = map (λ (f : Function). f.name) p.functions ++ map name_of (taken_calls p)

-- where the function with this number stands among them
abbrev pub place_of : Program → ℕ → ℕ
place_of p f =
    if nat_lt f (defined p) then f else defined p + length (filter (λ x. nat_lt x (f - defined p)) (taken_calls p))

-- the candidates of a marked site, by their places
abbrev pub candidate_places : Program → ℕ → List ℕ
candidate_places p s = if marked p s then map (place_of p) (candidates p s) else []

-- the shapes of a program
abbrev pub shapes_of : Program → Shapes
shapes_of p = record {
  functions = shapes_of_functions p;
  candidates = candidate_places p;
  main = p.main;
}
