-- For private contracts and proofs alone: what the parts of a program do in a machine. It is what they mean (c_meaning), but that the run
-- stops with U13 where a type has more than 65,536 cells, where a pointer or an int has a number that a machine can't hold, and where a call
-- has more arguments than a function or a system call takes. No run of a well-typed program comes to that.
use Rattle.std.specs.Prelude.{ℕ, zero, suc, ◌-◌, nat_lt, nat_le, nat_eq, if◌then◌else◌, Bool, true, false, List, [], ◌∷◌, length, Option, Some, None, slice_get}
use Rattle.dm_base.specs.declared.event.Event.TheVariants.{Pre, Post}
use Rattle.dm_base.specs.declared.outcome.Outcome.TheVariants.{Undefined, Turns}
use Rattle.c_tree.specs.declared.value.ObjectName.{ObjectName}
use Rattle.c_tree.specs.declared.value.Value.{Value}
use Rattle.c_tree.specs.declared.value.Value.TheVariants.{Indeterminate, Func}
use Rattle.c_tree.specs.Tree.{CType, array, function}
use Rattle.c_tree.specs.Tree.{Expr, constant, function_name, string_place, variable, dereference, load, address_of, decay, discard, field, unary_operation, conversion, arithmetic, comparison, pointer_add, pointer_diff, and, or, assign, update, conditional, comma, call, call_through}
use Rattle.c_tree.specs.Tree.{Exprs, no_exprs, more_exprs, Maybe, absent, there, Inits, no_inits, more_inits}
use Rattle.c_tree.specs.Tree.{Stmt, block, empty, evaluate, declare, if_else, while_loop, do_loop, for_loop, switch_on, break_off, continue_on, return_void, return_value, Stmts, no_stmts, more_stmts, Groups, no_groups, more_groups}
use Rattle.c_tree.specs.Tree.{Function, Program, type_of}
use Rattle.c_tree.specs.Layout.{Structs, cells}
use Rattle.c_tree.specs.Functions.{defined}
use Rattle.c_tree.specs.Operators.{convert, binary}
use Rattle.c_values.specs.Answers.{Answer, gives, undefined, and_then, U13}
use Rattle.c_values.specs.Memory.{Objects, declared}
use Rattle.c_meaning.specs.Meaning.{Frame, Loop, World, either, static_name, name_in, operated, comparing, moving, updated, wants, null_call, tested, declared_in, leaving, selected}
use Rattle.c_meaning.specs.Pointers.{callee, truth_value, place, behind, function_behind, load_place, store_place, member, to_first, difference}
use Rattle.c_meaning.specs.Results.{State, with_memory, Result, Go, Stop, then_do, spend, answered, remembered, Exit, on, broken, continued, returned, on_exit, on_round, out_of_switch}
use Rattle.c_meaning.specs.Runs.{entered, parameters, result_of}
use Rattle.c_meaning.specs.Meaning.{without}
use Rattle.c_meaning.specs.SystemCalls as calls
use Rattle.ref_machine_steps.specs.Words.{held}
use Rattle.ref_machine_frames.specs.Cells.{few_cells}

-- the place of an object of this type
abbrev pub whole : Structs → ObjectName → CType → Answer Value
whole structs x t = and_then (few_cells (cells structs t)) (λ width. gives (place x 0 width))

-- what is behind a pointer to this type (6.5.3.2 paragraph 4)
abbrev pub behind_of : CType → Objects → Value → Answer Value
behind_of (function r ts) m v = function_behind v
behind_of t m v = held (behind m v)

-- a place of this type as a pointer (6.3.2.1)
abbrev pub decayed : Structs → CType → Value → Answer Value
decayed structs (array t n) v = and_then (few_cells (cells structs t)) (λ width. to_first width n v)
decayed structs (function r ts) v = gives v
decayed structs t v = undefined U13

-- the member of this type that begins so many cells after a struct (6.5.2.3)
abbrev pub member_of : Structs → ℕ → CType → Value → Answer Value
member_of structs first t v = and_then (few_cells (cells structs t)) (λ width. held (member first width v))

-- a system call with its arguments, of which none has more than three
abbrev pub system_call : ℕ → List Value → State → Result Value
system_call x vs st = if nat_le (length vs) 3 then calls.system_call x vs st else Stop (Undefined U13) []

abbrev pub system_call_alone : ℕ → List Value → State → Result Value
system_call_alone x vs st = if nat_lt x 24 then system_call x vs st else Stop (Undefined U13) []

abbrev pub call_undefined : ℕ → List Value → State → Result Value
call_undefined x vs st =
    if nat_lt x 24
    then system_call x vs st
    else (if nat_eq x 24 then null_call Pre vs st else (if nat_eq x 25 then null_call Post vs st else Stop (Undefined U13) []))

abbrev pub called : Program → World → Bool → ℕ → List Value → State → Result Value
called p w wanted f vs st =
    if nat_lt f (defined p) then w.enter wanted f vs st else call_undefined (f - defined p) vs st

abbrev pub called_through : Program → World → Bool → ℕ → List Value → State → Result Value
called_through p w wanted f vs st =
    if nat_lt f (defined p) then w.enter wanted f vs st else system_call_alone (f - defined p) vs st

module _ (p : Program) (w : World) (fr : Frame) where
  abbrev mutual
    pub eval : Bool → Expr → State → Result Value
    eval wanted (constant t v) st = Go v st []
    eval wanted (function_name t f) st = Go (Func f) st []
    eval wanted (string_place t n) st = answered (whole p.structs (static_name n) t) st
    eval wanted (variable t s n) st = answered (whole p.structs (name_in fr s n) t) st
    eval wanted (dereference t a) st = then_do (eval true a st) (λ v st. answered (behind_of t st.memory v) st)
    eval wanted (load t a) st = then_do (eval true a st) (λ q st. answered (load_place st.memory q) st)
    eval wanted (address_of t a) st = eval true a st
    eval wanted (decay t a) st = then_do (eval true a st) (λ q st. answered (decayed p.structs (type_of a) q) st)
    eval wanted (discard t a) st = then_do (eval false a st) (λ v st. Go Indeterminate st [])
    eval wanted (field t first a) st = then_do (eval true a st) (λ q st. answered (member_of p.structs first t q) st)
    eval wanted (unary_operation t op a) st = then_do (eval true a st) (λ v st. answered (operated op st.memory v) st)
    eval wanted (conversion t to a) st = then_do (eval true a st) (λ v st. answered (convert to v) st)
    eval wanted (arithmetic t op a b) st =
        then_do (eval true a st) (λ v st. then_do (eval true b st) (λ u st. answered (binary op v u) st))
    eval wanted (comparison t op a b) st =
        then_do (eval true a st) (λ v st. then_do (eval true b st) (λ u st. answered (comparing op st.memory v u) st))
    eval wanted (pointer_add t first subtracted a b) st =
        then_do (eval true a st) (λ v st. then_do (eval true b st) (λ u st. answered (moving first subtracted st.memory v u) st))
    eval wanted (pointer_diff t a b) st =
        then_do (eval true a st) (λ v st. then_do (eval true b st) (λ u st. answered (held (difference st.memory v u)) st))
    eval wanted (and t a b) st =
        then_do (tested (eval true a st)) (λ holds st. either holds (then_do (tested (eval true b st)) (λ holds st. Go (truth_value holds) st [])) (Go (truth_value false) st []))
    eval wanted (or t a b) st =
        then_do (tested (eval true a st)) (λ holds st. either holds (Go (truth_value true) st []) (then_do (tested (eval true b st)) (λ holds st. Go (truth_value holds) st [])))
    eval wanted (assign t a b) st =
        then_do (eval true a st) (λ q st. then_do (eval true b st) (λ v st. remembered (store_place st.memory q v) v st))
    eval wanted (update t op old a b) st =
        then_do (eval true a st) (λ q st. then_do (answered (load_place st.memory q) st) (λ before st.
        then_do (eval true b st) (λ v st. then_do (answered (updated op t (type_of b) st.memory before v) st) (λ new st.
        remembered (store_place st.memory q new) (either old before new) st))))
    eval wanted (conditional t c a b) st = then_do (tested (eval true c st)) (λ holds st. either holds (eval true a st) (eval true b st))
    eval wanted (comma t es) st = eval_each wanted es st
    eval wanted (call t site f args) st = then_do (eval_all args st) (λ vs st. called p w (wants wanted t) f vs st)
    eval wanted (call_through t site designator args) st =
        then_do (eval true designator st) (λ v st. then_do (eval_all args st) (λ vs st.
        then_do (answered (callee v) st) (λ f st. called_through p w (wants wanted t) f vs st)))

    pub eval_each : Bool → Exprs → State → Result Value
    eval_each wanted no_exprs st = Stop (Undefined U13) []
    eval_each wanted (more_exprs e no_exprs) st = eval wanted e st
    eval_each wanted (more_exprs e (more_exprs f es)) st = then_do (eval false e st) (λ v st. eval_each wanted (more_exprs f es) st)

    pub eval_all : Exprs → State → Result (List Value)
    eval_all no_exprs st = Go [] st []
    eval_all (more_exprs e es) st = then_do (eval true e st) (λ v st. then_do (eval_all es st) (λ vs st. Go (v ∷ vs) st []))

abbrev pub condition : Program → World → Frame → Maybe → State → Result Bool
condition p w fr absent st = Go true st []
condition p w fr (there e) st = tested (eval p w fr true e st)

abbrev pub perhaps : Program → World → Frame → Maybe → State → Result Exit
perhaps p w fr absent st = Go on st []
perhaps p w fr (there e) st = then_do (eval p w fr false e st) (λ v st. Go on st [])

abbrev pub initialise : Program → World → Frame → ℕ → Inits → State → Result Exit
initialise p w fr x no_inits st = Go on st []
initialise p w fr x (more_inits cell e is) st =
    then_do (eval p w fr true e st) (λ v st. then_do (remembered (store_place st.memory (place (name_in fr false x) cell 1) v) v st) (λ v st. initialise p w fr x is st))

abbrev pub fresh : Structs → Frame → ℕ → Option CType → State → Result Exit
fresh structs fr x None st = Stop (Undefined U13) []
fresh structs fr x (Some t) st =
    then_do (answered (few_cells (cells structs t)) st) (λ n st. Go on (with_memory st (declared st.memory (name_in fr false x) n)) [])

module _ (p : Program) (w : World) (fr : Frame) where
  abbrev mutual
    pub exec : Stmt → State → Result Exit
    exec (block ss) st = leaving fr (declared_in ss) (exec_all ss st)
    exec empty st = Go on st []
    exec (evaluate e) st = then_do (eval p w fr false e st) (λ v st. Go on st [])
    exec (declare x is) st =
        then_do (fresh p.structs fr x (slice_get fr.types x) st) (λ y st. initialise p w fr x is st)
    exec (if_else e s r) st = then_do (tested (eval p w fr true e st)) (λ holds st. either holds (exec s st) (exec r st))
    exec (while_loop e s) st = w.again fr (record { test = there e; body = s; step = absent }) st
    exec (do_loop s e) st =
        then_do (exec s st) (λ x st. on_round x st (w.again fr (record { test = there e; body = s; step = absent })))
    exec (for_loop first test step s) st =
        leaving fr (declared_in first) (then_do (exec_all first st) (λ x st. on_exit x st (w.again fr (record { test = test; body = s; step = step }))))
    exec (switch_on e gs) st =
        then_do (eval p w fr true e st) (λ v st. then_do (exec_from (selected v gs) gs st) (λ x st. Go (out_of_switch x) st []))
    exec break_off st = Go broken st []
    exec continue_on st = Go continued st []
    exec return_void st = Go (returned None) st []
    exec (return_value e) st = then_do (eval p w fr true e st) (λ v st. Go (returned (Some v)) st [])

    pub exec_all : Stmts → State → Result Exit
    exec_all no_stmts st = Go on st []
    exec_all (more_stmts s ss) st = then_do (exec s st) (λ x st. on_exit x st (exec_all ss))

    pub exec_from : ℕ → Groups → State → Result Exit
    exec_from n no_groups st = Go on st []
    exec_from zero (more_groups labels ss gs) st = then_do (exec_all ss st) (λ x st. on_exit x st (exec_from zero gs))
    exec_from (suc n) (more_groups labels ss gs) st = exec_from n gs st

-- the body of a function in a new activation
abbrev pub run_body : Program → World → Bool → Bool → Option Function → List Value → State → Result Value
run_body p w is_main wanted None vs st = Stop (Undefined U13) []
run_body p w is_main wanted (Some g) vs st =
    then_do (exec p w (record { activation = suc st.entries; types = g.variables }) g.body (entered vs st))
    (λ x after. result_of is_main wanted x (with_memory after (without (suc st.entries) (parameters 0 vs) after.memory)))

-- the same of a function with at most 16 parameters
abbrev pub run_few : Program → World → Bool → Bool → Option Function → List Value → State → Result Value
run_few p w is_main wanted g vs st = if nat_le (length vs) 16 then run_body p w is_main wanted g vs st else Stop (Undefined U13) []

abbrev pub enter : Program → World → Bool → ℕ → List Value → State → Result Value
enter p w wanted f vs st = spend st (λ st. run_few p w (nat_eq f p.main) wanted (slice_get p.functions f) vs st)

abbrev pub loop : Program → World → Frame → Loop → State → Result Exit
loop p w fr l st =
    spend st (λ st. then_do (condition p w fr l.test st) (λ holds st.
    either holds
    (then_do (exec p w fr l.body st) (λ x st. on_round x st (λ st. then_do (perhaps p w fr l.step st) (λ y st. w.again fr l st))))
    (Go on st [])))

-- what so many turns are enough for
abbrev pub world : Program → ℕ → World
world p zero = record { enter = λ wanted f vs st. Stop Turns []; again = λ fr l st. Stop Turns [] }
world p (suc n) = record {
  enter = λ wanted f vs st. enter p (world p n) wanted f vs st;
  again = λ fr l st. loop p (world p n) fr l st;
}
