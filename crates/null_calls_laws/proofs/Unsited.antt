-- A program does the same whatever its sites are.
use Rattle.std.proofs.Common.{◌≡◌, ℕ, zero, suc, ◌-◌, nat_lt, nat_eq, if◌then◌else◌, Bool, true, false, List, [], ◌∷◌, ◌++◌, Option, Some, None, map, slice_get, option_map, sym, ap, ◌∙◌, refl}
use Rattle.std.specs.List.{list_any}
use Rattle.std.proofs.lemmas.List.{length-map}
use Rattle.std.proofs.lemmas.Option.{slice_get-map}
use Rattle.sys_table.specs.declared.sys_result.SysResult.{SysResult}
use Rattle.c_meaning.specs.Value.{Value}
use Rattle.c_meaning.specs.Value.TheVariants.{Indeterminate}
use Rattle.c_meaning.specs.TLabel.{TLabel}
use Rattle.c_meaning.specs.Tree.{Expr, constant, dereference, load, address_of, decay, discard, field, unary_operation, conversion, arithmetic, comparison, pointer_add, pointer_diff, and, or, assign, update, conditional, comma, call, call_through, type_of}
use Rattle.c_meaning.specs.Tree.{Exprs, no_exprs, more_exprs, Maybe, absent, there, Inits, no_inits, more_inits}
use Rattle.c_meaning.specs.Tree.{Stmt, block, evaluate, declare, if_else, while_loop, do_loop, for_loop, switch_on, return_value, Stmts, no_stmts, more_stmts, Groups, no_groups, more_groups}
use Rattle.c_meaning.specs.Tree.{Function, Program}
use Rattle.c_meaning.specs.Layout.{cells}
use Rattle.c_meaning.specs.Functions.{defined}
use Rattle.c_meaning.specs.Operators.{convert, binary}
use Rattle.c_meaning.specs.Pointers.{callee, truth_value, place, load_place, store_place, member, difference}
use Rattle.c_meaning.specs.Meaning.{Frame, Loop, World, either, name_in, behind_of, decayed, operated, comparing, moving, updated, with_marks, wants, call_undefined, called, system_call_alone, called_through, tested, eval, eval_each, eval_all, condition, perhaps, initialise, fresh, declared_by, declared_in, leaving, group_with, is_case, is_default, count_groups, or_else, selected, exec, exec_all, exec_from, without}
use Rattle.c_meaning.specs.Results.{State, with_memory, Go, then_do, answered, remembered, spend, on, returned, on_exit, on_round, out_of_switch}
use Rattle.c_meaning.specs.Runs.{no_marks, entered, parameters, result_of, run_body, enter, loop, world, beginning, ending, run}
use Rattle.null_calls_laws.specs.IsWithNullCalls.{IsWithNullCalls}
use Rattle.null_calls_laws.specs.InstrumentedPrograms.{instrumented_program}
use Rattle.null_calls_laws.specs.WithoutSites.{unsited, unsited_all, unsited_maybe, unsited_inits, unsited_stmt, unsited_stmts, unsited_groups, unsited_function, without_sites}

-- ## What doesn't look at sites

pub type_same : (e : Expr) → type_of (unsited e) ≡ type_of e
type_same (constant t v) = refl
type_same e = refl

declared_by_same : (s : Stmt) → declared_by (unsited_stmt s) ≡ declared_by s
declared_by_same (block ss) = refl
declared_by_same s = refl

declared_in_same : (ss : Stmts) → declared_in (unsited_stmts ss) ≡ declared_in ss
declared_in_same no_stmts = refl
declared_in_same (more_stmts s ss) = λ i. declared_by_same s i ++ declared_in_same ss i

group_same : (is : TLabel → Bool) (gs : Groups) → group_with is (unsited_groups gs) ≡ group_with is gs
group_same is no_groups = refl
group_same is (more_groups ls ss gs) = λ i. if list_any is ls then Some 0 else option_map suc (group_same is gs i)

count_same : (gs : Groups) → count_groups (unsited_groups gs) ≡ count_groups gs
count_same no_groups = refl
count_same (more_groups ls ss gs) = λ i. suc (count_same gs i)

selected_same : (v : Value) (gs : Groups) → selected v (unsited_groups gs) ≡ selected v gs
selected_same v gs = λ i. or_else (group_same (is_case v) gs i) (or_else (group_same is_default gs i) (count_same gs i))

defined_same : (p : Program) → defined (without_sites p) ≡ defined p
defined_same p = length-map p.functions unsited_function

abbrev unsited_loop : Loop → Loop
unsited_loop l = record { test = unsited_maybe l.test; body = unsited_stmt l.body; step = unsited_maybe l.step }

-- worlds in which functions and loops do the same
record Same (v w : World) : Type 0 where
  enter : (wanted : Bool) (f : ℕ) (vs : List Value) (st : State) → v.enter wanted f vs st ≡ w.enter wanted f vs st
  again : (fr : Frame) (l : Loop) (st : State) → v.again fr (unsited_loop l) st ≡ w.again fr l st

module _ (p : Program) (v w : World) (same : Same v w) where
  called_same : (wanted : Bool) (f : ℕ) (vs : List Value) (st : State) → called (without_sites p) v wanted f vs st ≡ called p w wanted f vs st
  called_same wanted f vs st =
      λ i. if nat_lt f (defined_same p i) then same.enter wanted f vs st i else call_undefined (f - defined_same p i) vs st

  through_same : (wanted : Bool) (f : ℕ) (vs : List Value) (st : State) → called_through (without_sites p) v wanted f vs st ≡ called_through p w wanted f vs st
  through_same wanted f vs st =
      λ i. if nat_lt f (defined_same p i) then same.enter wanted f vs st i else system_call_alone (f - defined_same p i) vs st

module _ (p : Program) (v w : World) (same : Same v w) (fr : Frame) where
  mutual
    value_same : (wanted : Bool) (e : Expr) (st : State) → eval (without_sites p) v no_marks fr wanted (unsited e) st ≡ eval p w no_marks fr wanted e st
    value_same wanted (dereference t a) st = λ i. then_do (value_same true a st i) (λ u st. answered (behind_of t st.memory u) st)
    value_same wanted (load t a) st = λ i. then_do (value_same true a st i) (λ q st. answered (load_place st.memory q) st)
    value_same wanted (address_of t a) st = value_same true a st
    value_same wanted (decay t a) st = λ i. then_do (value_same true a st i) (λ q st. answered (decayed p.structs (type_same a i) q) st)
    value_same wanted (discard t a) st = λ i. then_do (value_same false a st i) (λ u st. Go Indeterminate st [])
    value_same wanted (field t first a) st = λ i. then_do (value_same true a st i) (λ q st. answered (member first (cells p.structs t) q) st)
    value_same wanted (unary_operation t op a) st = λ i. then_do (value_same true a st i) (λ u st. answered (operated op st.memory u) st)
    value_same wanted (conversion t to a) st = λ i. then_do (value_same true a st i) (λ u st. answered (convert to u) st)
    value_same wanted (arithmetic t op a b) st =
        λ i. then_do (value_same true a st i) (λ x st. then_do (value_same true b st i) (λ y st. answered (binary op x y) st))
    value_same wanted (comparison t op a b) st =
        λ i. then_do (value_same true a st i) (λ x st. then_do (value_same true b st i) (λ y st. answered (comparing op st.memory x y) st))
    value_same wanted (pointer_add t first subtracted a b) st =
        λ i. then_do (value_same true a st i) (λ x st. then_do (value_same true b st i) (λ y st. answered (moving first subtracted st.memory x y) st))
    value_same wanted (pointer_diff t a b) st =
        λ i. then_do (value_same true a st i) (λ x st. then_do (value_same true b st i) (λ y st. answered (difference st.memory x y) st))
    value_same wanted (and t a b) st =
        λ i. then_do (tested (value_same true a st i)) (λ holds st. either holds (then_do (tested (value_same true b st i)) (λ holds st. Go (truth_value holds) st [])) (Go (truth_value false) st []))
    value_same wanted (or t a b) st =
        λ i. then_do (tested (value_same true a st i)) (λ holds st. either holds (Go (truth_value true) st []) (then_do (tested (value_same true b st i)) (λ holds st. Go (truth_value holds) st [])))
    value_same wanted (assign t a b) st =
        λ i. then_do (value_same true a st i) (λ q st. then_do (value_same true b st i) (λ x st. remembered (store_place st.memory q x) x st))
    value_same wanted (update t op old a b) st =
        λ i. then_do (value_same true a st i) (λ q st. then_do (answered (load_place st.memory q) st) (λ before st.
        then_do (value_same true b st i) (λ x st. then_do (answered (updated op t (type_same b i) st.memory before x) st) (λ new st.
        remembered (store_place st.memory q new) (either old before new) st))))
    value_same wanted (conditional t c a b) st =
        λ i. then_do (tested (value_same true c st i)) (λ holds st. either holds (value_same true a st i) (value_same true b st i))
    value_same wanted (comma t es) st = members_same wanted es st
    value_same wanted (call t site f es) st =
        λ i. then_do (arguments_same es st i) (λ vs st. with_marks no_marks site (called_same p v w same (wants wanted t) f vs st i))
    value_same wanted (call_through t site d es) st =
        λ i. then_do (value_same true d st i) (λ u st. then_do (arguments_same es st i) (λ vs st.
        with_marks no_marks site (then_do (answered (callee u) st) (λ f st. through_same p v w same (wants wanted t) f vs st i))))
    value_same wanted e st = refl

    members_same : (wanted : Bool) (es : Exprs) (st : State) → eval_each (without_sites p) v no_marks fr wanted (unsited_all es) st ≡ eval_each p w no_marks fr wanted es st
    members_same wanted no_exprs st = refl
    members_same wanted (more_exprs e no_exprs) st = value_same wanted e st
    members_same wanted (more_exprs e (more_exprs f es)) st =
        λ i. then_do (value_same false e st i) (λ x st. members_same wanted (more_exprs f es) st i)

    arguments_same : (es : Exprs) (st : State) → eval_all (without_sites p) v no_marks fr (unsited_all es) st ≡ eval_all p w no_marks fr es st
    arguments_same no_exprs st = refl
    arguments_same (more_exprs e es) st =
        λ i. then_do (value_same true e st i) (λ x st. then_do (arguments_same es st i) (λ vs st. Go (x ∷ vs) st []))

  condition_same : (m : Maybe) (st : State) → condition (without_sites p) v no_marks fr (unsited_maybe m) st ≡ condition p w no_marks fr m st
  condition_same absent st = refl
  condition_same (there e) st = λ i. tested (value_same true e st i)

  perhaps_same : (m : Maybe) (st : State) → perhaps (without_sites p) v no_marks fr (unsited_maybe m) st ≡ perhaps p w no_marks fr m st
  perhaps_same absent st = refl
  perhaps_same (there e) st = λ i. then_do (value_same false e st i) (λ x st. Go on st [])

  initialise_same : (x : ℕ) (is : Inits) (st : State) → initialise (without_sites p) v no_marks fr x (unsited_inits is) st ≡ initialise p w no_marks fr x is st
  initialise_same x no_inits st = refl
  initialise_same x (more_inits cell e is) st =
      λ i. then_do (value_same true e st i) (λ u st. then_do (remembered (store_place st.memory (place (name_in fr false x) cell 1) u) u st) (λ u st. initialise_same x is st i))

  mutual
    stmt_same : (s : Stmt) (st : State) → exec (without_sites p) v no_marks fr (unsited_stmt s) st ≡ exec p w no_marks fr s st
    stmt_same (block ss) st = λ i. leaving fr (declared_in_same ss i) (all_same ss st i)
    stmt_same (evaluate e) st = λ i. then_do (value_same false e st i) (λ x st. Go on st [])
    stmt_same (declare x is) st =
        λ i. then_do (fresh p.structs fr x (slice_get fr.types x) st) (λ y st. initialise_same x is st i)
    stmt_same (if_else e s r) st =
        λ i. then_do (tested (value_same true e st i)) (λ holds st. either holds (stmt_same s st i) (stmt_same r st i))
    stmt_same (while_loop e s) st = same.again fr (record { test = there e; body = s; step = absent }) st
    stmt_same (do_loop s e) st =
        λ i. then_do (stmt_same s st i) (λ x st. on_round x st (λ st. same.again fr (record { test = there e; body = s; step = absent }) st i))
    stmt_same (for_loop first test step s) st =
        λ i. leaving fr (declared_in_same first i) (then_do (all_same first st i) (λ x st. on_exit x st (λ st. same.again fr (record { test = test; body = s; step = step }) st i)))
    stmt_same (switch_on e gs) st =
        λ i. then_do (value_same true e st i) (λ x st. then_do (from_same (selected_same x gs i) gs st i) (λ x st. Go (out_of_switch x) st []))
    stmt_same (return_value e) st = λ i. then_do (value_same true e st i) (λ x st. Go (returned (Some x)) st [])
    stmt_same s st = refl

    all_same : (ss : Stmts) (st : State) → exec_all (without_sites p) v no_marks fr (unsited_stmts ss) st ≡ exec_all p w no_marks fr ss st
    all_same no_stmts st = refl
    all_same (more_stmts s ss) st = λ i. then_do (stmt_same s st i) (λ x st. on_exit x st (λ st. all_same ss st i))

    from_same : (n : ℕ) (gs : Groups) (st : State) → exec_from (without_sites p) v no_marks fr n (unsited_groups gs) st ≡ exec_from p w no_marks fr n gs st
    from_same n no_groups st = refl
    from_same zero (more_groups ls ss gs) st = λ i. then_do (all_same ss st i) (λ x st. on_exit x st (λ st. from_same zero gs st i))
    from_same (suc n) (more_groups ls ss gs) st = from_same n gs st

-- ## Functions, loops and turns

module _ (p : Program) (v w : World) (same : Same v w) where
  body_same : (is_main wanted : Bool) (g : Option Function) (vs : List Value) (st : State) → run_body (without_sites p) v no_marks is_main wanted (option_map unsited_function g) vs st ≡ run_body p w no_marks is_main wanted g vs st
  body_same is_main wanted None vs st = refl
  body_same is_main wanted (Some g) vs st =
      λ i. then_do (stmt_same p v w same (record { activation = suc st.entries; types = g.variables }) g.body (entered vs st) i)
      (λ x after. result_of is_main wanted x (with_memory after (without (suc st.entries) (parameters 0 vs) after.memory)))

  function_same : (is_main wanted : Bool) (f : ℕ) (vs : List Value) (st : State) → run_body (without_sites p) v no_marks is_main wanted (slice_get (map unsited_function p.functions) f) vs st ≡ run_body p w no_marks is_main wanted (slice_get p.functions f) vs st
  function_same is_main wanted f vs st =
      ap (λ g. run_body (without_sites p) v no_marks is_main wanted g vs st) (slice_get-map unsited_function p.functions f)
      ∙ body_same is_main wanted (slice_get p.functions f) vs st

  enter_same : (wanted : Bool) (f : ℕ) (vs : List Value) (st : State) → enter (without_sites p) v no_marks wanted f vs st ≡ enter p w no_marks wanted f vs st
  enter_same wanted f vs st = λ i. spend st (λ st. function_same (nat_eq f p.main) wanted f vs st i)

  loop_same : (fr : Frame) (l : Loop) (st : State) → loop (without_sites p) v no_marks fr (unsited_loop l) st ≡ loop p w no_marks fr l st
  loop_same fr l st =
      λ i. spend st (λ st. then_do (condition_same p v w same fr l.test st i) (λ holds st.
      either holds
      (then_do (stmt_same p v w same fr l.body st i) (λ x st. on_round x st (λ st. then_do (perhaps_same p v w same fr l.step st i) (λ y st. same.again fr l st i))))
      (Go on st [])))

worlds_same : (p : Program) (n : ℕ) → Same (world (without_sites p) no_marks n) (world p no_marks n)
worlds_same p zero = record { enter = λ wanted f vs st. refl; again = λ fr l st. refl }
worlds_same p (suc n) = record {
  enter = λ wanted f vs st. enter_same p (world (without_sites p) no_marks n) (world p no_marks n) (worlds_same p n) wanted f vs st;
  again = λ fr l st. loop_same p (world (without_sites p) no_marks n) (world p no_marks n) (worlds_same p n) fr l st;
}

pub sites_change_nothing : (p : Program) (records : List SysResult) (turns : ℕ) → run (without_sites p) records turns ≡ run p records turns
sites_change_nothing p records turns =
    λ i. ending (enter_same p (world (without_sites p) no_marks turns) (world p no_marks turns) (worlds_same p turns) true p.main [] (beginning p records turns) i)

pub instrumented_runs_are_one : (p q : Program) (records : List SysResult) (turns : ℕ) → IsWithNullCalls p q → run q records turns ≡ run (instrumented_program p) records turns
instrumented_runs_are_one p q records turns b =
    sym (sites_change_nothing q records turns) ∙ ap (λ q. run q records turns) b
