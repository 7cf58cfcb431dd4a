-- In a machine, too, as many turns as are left are enough: with them, the world of a run is its own next one. By recursion on the parts of a program, and on turns.
use Rattle.std.proofs.Common.{◌≡◌, ℕ, zero, suc, ◌≤◌, Bool, true, false, ◌-◌, nat_lt, nat_le, nat_eq, List, [], length, Option, Some, None, slice_get}
use Rattle.dm_base.specs.declared.event.Event.TheVariants.{Pre, Post}
use Rattle.c_tree.specs.declared.value.Value.{Value}
use Rattle.c_tree.specs.Tree.{CType, Function, Program, type_of}
use Rattle.c_tree.specs.Tree.{Expr, string_place, variable, dereference, load, address_of, decay, discard, field, unary_operation, conversion, arithmetic, comparison, pointer_add, pointer_diff, and, or, assign, update, conditional, comma, call, call_through}
use Rattle.c_tree.specs.Tree.{Exprs, no_exprs, more_exprs, Maybe, absent, there, Inits, no_inits, more_inits}
use Rattle.c_tree.specs.Tree.{Stmt, block, evaluate, declare, if_else, while_loop, do_loop, for_loop, switch_on, return_value, Stmts, no_stmts, more_stmts, Groups, no_groups, more_groups}
use Rattle.c_tree.specs.Functions.{defined}
use Rattle.c_tree.specs.Operators.{convert, binary}
use Rattle.c_tree.specs.Layout.{cells}
use Rattle.c_values.specs.Answers.{U13}
use Rattle.c_values.specs.Memory.{declared}
use Rattle.c_meaning.specs.Meaning.{Frame, Loop, World, either, static_name, wants, declared_in, selected, operated, comparing, moving, updated, name_in}
use Rattle.c_meaning.specs.Pointers.{callee, place, load_place, store_place, difference}
use Rattle.c_meaning.specs.Results.{State, Result, Exit, on}
use Rattle.c_meaning.specs.Runs.{no_marks}
use Rattle.ref_machine_frames.specs.Words.{held}
use Rattle.ref_machine_frames.specs.Cells.{few_cells}
use Rattle.ref_machine_frames.specs.Held.{whole, behind_of, decayed, member_of, system_call, call_undefined, called, called_through, eval, eval_each, eval_all, condition, perhaps, initialise, fresh, exec, exec_all, exec_from, run_body, enter, loop, world}
use Rattle.c_meaning.proofs.EnoughTurns.{Same, agree, none_left, one_more}
use Rattle.c_meaning.proofs.TwoRuns.{Both, AreRelated, joins, goes, stops, changes, answers, remembers, chooses, decides, tests, exits, rounds, leaves, requests, nulls, bodies, spends}

module _ (p : Program) (left : ℕ) where
  -- two parts are the same where at most so many turns are left, and leave no more
  abbrev Alike : (A : Type 0) → (State → Result A) → (State → Result A) → Type 0
  Alike A f g = Both (agree left no_marks) A f g

  calls_agree : (x : ℕ) (vs : List Value) → Alike Value (system_call x vs) (system_call x vs)
  calls_agree x vs = decides (nat_le (length vs) 3) (requests x vs) (stops U13)

  module _ (w v : World) (worlds : AreRelated p (agree left no_marks) w v) where
    undefined_agree : (x : ℕ) (vs : List Value) → Alike Value (call_undefined x vs) (call_undefined x vs)
    undefined_agree x vs =
        decides (nat_lt x 24) (calls_agree x vs) (decides (nat_eq x 24) (nulls Pre (λ no. no) vs) (decides (nat_eq x 25) (nulls Post (λ no. no) vs) (stops U13)))

    called_agree : (wanted : Bool) (f : ℕ) (vs : List Value) → Alike Value (called p w wanted f vs) (called p v wanted f vs)
    called_agree wanted f vs = decides (nat_lt f (defined p)) (worlds.enter wanted f vs) (undefined_agree (f - defined p) vs)

    through_agree : (wanted : Bool) (f : ℕ) (vs : List Value) → Alike Value (called_through p w wanted f vs) (called_through p v wanted f vs)
    through_agree wanted f vs =
        decides (nat_lt f (defined p)) (worlds.enter wanted f vs) (decides (nat_lt (f - defined p) 24) (calls_agree (f - defined p) vs) (stops U13))

    module _ (fr : Frame) where
      mutual
        eval_agree : (wanted : Bool) (e : Expr) → Alike Value (eval p w fr wanted e) (eval p v fr wanted e)
        eval_agree wanted (string_place t k) = answers (λ o. whole p.structs (static_name k) t)
        eval_agree wanted (variable t s k) = answers (λ o. whole p.structs (name_in fr s k) t)
        eval_agree wanted (dereference t a) = joins (eval_agree true a) (λ x. answers (λ o. behind_of t o x))
        eval_agree wanted (load t a) = joins (eval_agree true a) (λ x. answers (λ o. load_place o x))
        eval_agree wanted (address_of t a) = eval_agree true a
        eval_agree wanted (decay t a) = joins (eval_agree true a) (λ x. answers (λ o. decayed p.structs (type_of a) x))
        eval_agree wanted (discard t a) = joins (eval_agree false a) (λ x. goes _)
        eval_agree wanted (field t first a) = joins (eval_agree true a) (λ x. answers (λ o. member_of p.structs first t x))
        eval_agree wanted (unary_operation t op a) = joins (eval_agree true a) (λ x. answers (λ o. operated op o x))
        eval_agree wanted (conversion t to a) = joins (eval_agree true a) (λ x. answers (λ o. convert to x))
        eval_agree wanted (arithmetic t op a b) = joins (eval_agree true a) (λ x. joins (eval_agree true b) (λ y. answers (λ o. binary op x y)))
        eval_agree wanted (comparison t op a b) = joins (eval_agree true a) (λ x. joins (eval_agree true b) (λ y. answers (λ o. comparing op o x y)))
        eval_agree wanted (pointer_add t first subtracted a b) = joins (eval_agree true a) (λ x. joins (eval_agree true b) (λ y. answers (λ o. moving first subtracted o x y)))
        eval_agree wanted (pointer_diff t a b) = joins (eval_agree true a) (λ x. joins (eval_agree true b) (λ y. answers (λ o. held (difference o x y))))
        eval_agree wanted (and t a b) = joins (tests (eval_agree true a)) (λ holds. chooses holds (joins (tests (eval_agree true b)) (λ holds. goes _)) (goes _))
        eval_agree wanted (or t a b) = joins (tests (eval_agree true a)) (λ holds. chooses holds (goes _) (joins (tests (eval_agree true b)) (λ holds. goes _)))
        eval_agree wanted (assign t a b) = joins (eval_agree true a) (λ q. joins (eval_agree true b) (λ x. remembers (λ o. store_place o q x) x))
        eval_agree wanted (update t op old a b) =
            joins (eval_agree true a) (λ q. joins (answers (λ o. load_place o q)) (λ before. joins (eval_agree true b) (λ y. joins (answers (λ o. updated op t (type_of b) o before y)) (λ new. remembers (λ o. store_place o q new) (either old before new)))))
        eval_agree wanted (conditional t c a b) = joins (tests (eval_agree true c)) (λ holds. chooses holds (eval_agree true a) (eval_agree true b))
        eval_agree wanted (comma t es) = each_agree wanted es
        eval_agree wanted (call t site f es) = joins (all_agree es) (λ vs. called_agree (wants wanted t) f vs)
        eval_agree wanted (call_through t site a es) = joins (eval_agree true a) (λ x. joins (all_agree es) (λ vs. joins (answers (λ o. callee x)) (λ f. through_agree (wants wanted t) f vs)))
        eval_agree wanted e = goes _

        each_agree : (wanted : Bool) (es : Exprs) → Alike Value (eval_each p w fr wanted es) (eval_each p v fr wanted es)
        each_agree wanted no_exprs = stops U13
        each_agree wanted (more_exprs e no_exprs) = eval_agree wanted e
        each_agree wanted (more_exprs e (more_exprs f es)) = joins (eval_agree false e) (λ x. each_agree wanted (more_exprs f es))

        all_agree : (es : Exprs) → Alike (List Value) (eval_all p w fr es) (eval_all p v fr es)
        all_agree no_exprs = goes []
        all_agree (more_exprs e es) = joins (eval_agree true e) (λ x. joins (all_agree es) (λ vs. goes _))

      condition_agree : (e : Maybe) → Alike Bool (condition p w fr e) (condition p v fr e)
      condition_agree absent = goes true
      condition_agree (there e) = tests (eval_agree true e)

      perhaps_agree : (e : Maybe) → Alike Exit (perhaps p w fr e) (perhaps p v fr e)
      perhaps_agree absent = goes on
      perhaps_agree (there e) = joins (eval_agree false e) (λ x. goes on)

      inits_agree : (x : ℕ) (is : Inits) → Alike Exit (initialise p w fr x is) (initialise p v fr x is)
      inits_agree x no_inits = goes on
      inits_agree x (more_inits cell e is) =
          joins (eval_agree true e) (λ y. joins (remembers (λ o. store_place o (place (name_in fr false x) cell 1) y) y) (λ y. inits_agree x is))

      fresh_agree : (x : ℕ) (of : Option CType) → Alike Exit (fresh p.structs fr x of) (fresh p.structs fr x of)
      fresh_agree x None = stops U13
      fresh_agree x (Some of) = joins (answers (λ o. few_cells (cells p.structs of))) (λ n. changes on (λ o. declared o (name_in fr false x) n))

      mutual
        exec_agree : (s : Stmt) → Alike Exit (exec p w fr s) (exec p v fr s)
        exec_agree (block ss) = leaves fr (declared_in ss) (stmts_agree ss)
        exec_agree (evaluate e) = joins (eval_agree false e) (λ x. goes on)
        exec_agree (declare x is) = joins (fresh_agree x (slice_get fr.types x)) (λ y. inits_agree x is)
        exec_agree (if_else e s r) = joins (tests (eval_agree true e)) (λ holds. chooses holds (exec_agree s) (exec_agree r))
        exec_agree (while_loop e s) = worlds.again fr _ (λ no. absurd no)
        exec_agree (do_loop s e) = joins (exec_agree s) (λ x. rounds x (worlds.again fr _ (λ no. absurd no)))
        exec_agree (for_loop first test step s) = leaves fr (declared_in first) (joins (stmts_agree first) (λ x. exits x (worlds.again fr _ (λ no. absurd no))))
        exec_agree (switch_on e gs) = joins (eval_agree true e) (λ x. joins (groups_agree (selected x gs) gs) (λ x. goes _))
        exec_agree (return_value e) = joins (eval_agree true e) (λ x. goes _)
        exec_agree s = goes _

        stmts_agree : (ss : Stmts) → Alike Exit (exec_all p w fr ss) (exec_all p v fr ss)
        stmts_agree no_stmts = goes on
        stmts_agree (more_stmts s ss) = joins (exec_agree s) (λ x. exits x (stmts_agree ss))

        groups_agree : (k : ℕ) (gs : Groups) → Alike Exit (exec_from p w fr k gs) (exec_from p v fr k gs)
        groups_agree k no_groups = goes on
        groups_agree zero (more_groups labels ss gs) = joins (stmts_agree ss) (λ x. exits x (groups_agree zero gs))
        groups_agree (suc k) (more_groups labels ss gs) = groups_agree k gs

      loop_agree : (l : Loop) (st : State) → st.turns ≤ suc left → Same left (loop p w fr l st) (loop p v fr l st)
      loop_agree l st i =
          spends {related = agree left no_marks} (joins (condition_agree l.test) (λ holds. chooses holds (joins (exec_agree l.body) (λ x. rounds x (joins (perhaps_agree l.step) (λ y. worlds.again fr l (λ no. absurd no))))) (goes on))) st i

    body_agree : (is_main wanted : Bool) (g : Option Function) (vs : List Value) → Alike Value (run_body p w is_main wanted g vs) (run_body p v is_main wanted g vs)
    body_agree is_main wanted None vs = stops U13
    body_agree is_main wanted (Some g) vs = bodies is_main wanted vs (λ a. exec_agree (record { activation = a; types = g.variables }) g.body)

    enter_agree : (wanted : Bool) (f : ℕ) (vs : List Value) (st : State) → st.turns ≤ suc left → Same left (enter p w wanted f vs st) (enter p v wanted f vs st)
    enter_agree wanted f vs st i =
        spends {related = agree left no_marks} (decides (nat_le (length vs) 16) (body_agree (nat_eq f p.main) wanted (slice_get p.functions f) vs) (stops U13)) st i

-- the world of n turns and the next one are alike
world_alike : (p : Program) (n : ℕ) → AreRelated p (agree n no_marks) (world p n) (world p (suc n))
world_alike p zero = record { enter = λ wanted f vs. none_left no_marks _; again = λ fr l no. none_left no_marks _ }
world_alike p (suc n) = record {
  enter = λ wanted f vs. one_more no_marks n (enter_agree p n (world p n) (world p (suc n)) (world_alike p n) wanted f vs);
  again = λ fr l no. one_more no_marks n (loop_agree p n (world p n) (world p (suc n)) (world_alike p n) fr l);
}

-- where at most n turns are left, the world of n turns enters a function by its body
pub enter_enough : (p : Program) (n : ℕ) (wanted : Bool) (f : ℕ) (vs : List Value) (st : State) → st.turns ≤ n → (world p n).enter wanted f vs st ≡ enter p (world p n) wanted f vs st
enter_enough p n wanted f vs st le = (((world_alike p n).enter wanted f vs).at st le).0

-- and tests a loop as the loop
pub again_enough : (p : Program) (n : ℕ) (fr : Frame) (l : Loop) (st : State) → st.turns ≤ n → (world p n).again fr l st ≡ loop p (world p n) fr l st
again_enough p n fr l st le = (((world_alike p n).again fr l (λ no. absurd no)).at st le).0
