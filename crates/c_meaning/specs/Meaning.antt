-- What the parts of a program do (C99 5.1.2.3, 6.5, 6.8), evaluated from left to right. The events of a part are its own.
use Rattle.std.specs.Prelude.{ℕ, zero, suc, ◌-◌, nat_lt, nat_eq, if◌then◌else◌, Bool, true, false, not, List, [], ◌∷◌, ◌++◌, Option, Some, None, slice_get}
use Rattle.std.specs.List.{list_any}
use Rattle.std.specs.Option.{option_map}
use Rattle.std.specs.Ordering.{int_eq}
use Rattle.dm_base.specs.declared.event.Event.{Event}
use Rattle.dm_base.specs.declared.event.Event.TheVariants.{Pre, Post}
use Rattle.dm_base.specs.declared.outcome.Outcome.TheVariants.{Undefined}
use Rattle.c_tree.specs.declared.value.IntType.{IntType}
use Rattle.c_tree.specs.declared.value.UnOp.{UnOp}
use Rattle.c_tree.specs.declared.value.UnOp.TheVariants.{Minus, Complement, Not}
use Rattle.c_tree.specs.declared.value.BinOp.{BinOp}
use Rattle.c_tree.specs.declared.value.BinOp.TheVariants.{ShiftLeft, ShiftRight, Sub}
use Rattle.c_tree.specs.declared.value.ObjectName.{ObjectName}
use Rattle.c_tree.specs.declared.value.Value.{Value}
use Rattle.c_tree.specs.declared.value.Value.TheVariants.{Indeterminate, Int, Uint, Func}
use Rattle.c_tree.specs.declared.tree.TLabel.{TLabel}
use Rattle.c_tree.specs.declared.tree.TLabel.TheVariants.{Case, Default}
use Rattle.c_tree.specs.Tree.{CType, void, integer, pointer, array, function}
use Rattle.c_tree.specs.Tree.{Expr, constant, function_name, string_place, variable, dereference, load, address_of, decay, discard, field, unary_operation, conversion, arithmetic, comparison, pointer_add, pointer_diff, and, or, assign, update, conditional, comma, call, call_through}
use Rattle.c_tree.specs.Tree.{Exprs, no_exprs, more_exprs, Maybe, absent, there, Inits, no_inits, more_inits}
use Rattle.c_tree.specs.Tree.{Stmt, block, empty, evaluate, declare, if_else, while_loop, do_loop, for_loop, switch_on, break_off, continue_on, return_void, return_value, Stmts, no_stmts, more_stmts, Groups, no_groups, more_groups}
use Rattle.c_tree.specs.Tree.{Program, type_of}
use Rattle.c_tree.specs.Layout.{Structs, cells}
use Rattle.c_tree.specs.Functions.{defined}
use Rattle.c_values.specs.Answers.{Answer, gives, undefined, and_then, U13}
use Rattle.c_values.specs.Memory.{Objects, declared, ended}
use Rattle.c_tree.specs.Operands.{promoted}
use Rattle.c_tree.specs.Operators.{convert, unary, binary}
use Rattle.c_meaning.specs.Pointers.{callee, truth_value, place, behind, function_behind, load_place, store_place, member, to_first, moved, difference, compared, test}
use Rattle.c_meaning.specs.Results.{State, with_memory, Result, Go, Stop, after, then_do, answered, remembered, Exit, on, broken, continued, returned, on_exit, on_round, out_of_switch}
use Rattle.c_meaning.specs.SystemCalls.{system_call}

-- the events before and after a call at each site
abbrev pub Marks : Type 0
Marks = ℕ → List Event × List Event

-- the activation that runs, and the types of its variables
pub record Frame : Type 0 where
  pub activation : ℕ
  pub types : List CType

-- what goes round: the test, the body, and what is done after each round (6.8.5)
pub record Loop : Type 0 where
  pub test : Maybe
  pub body : Stmt
  pub step : Maybe

-- what costs a turn: to enter a function, whose value is wanted or not, and to test a loop
pub record World : Type 0 where
  pub enter : Bool → ℕ → List Value → State → Result Value
  pub again : Frame → Loop → State → Result Exit

abbrev pub either : {A : Type 0} → Bool → A → A → A
either true a b = a
either false a b = b

-- the name of a static object or a string
abbrev pub static_name : ℕ → ObjectName
static_name n = record { activation = 0; variable = n }

-- the name of a variable: a static one, or one of the activation that runs
abbrev pub name_in : Frame → Bool → ℕ → ObjectName
name_in fr true n = static_name n
name_in fr false n = record { activation = fr.activation; variable = n }

-- what is behind a pointer to this type (6.5.3.2 paragraph 4)
abbrev pub behind_of : CType → Objects → Value → Answer Value
behind_of (function r ts) m v = function_behind v
behind_of t m v = behind m v

-- a place of this type as a pointer: an array as that to its first element, a function as itself (6.3.2.1)
abbrev pub decayed : Structs → CType → Value → Answer Value
decayed structs (array t n) v = to_first (cells structs t) n v
decayed structs (function r ts) v = gives v
decayed structs t v = undefined U13

-- a unary operator on a scalar (6.5.3.3)
abbrev pub operated : UnOp → Objects → Value → Answer Value
operated Not m v = and_then (test m v) (λ holds. gives (truth_value (not holds)))
operated Minus m v = unary Minus v
operated Complement m v = unary Complement v

-- a comparison of two integers or of two pointers (6.5.8, 6.5.9)
abbrev pub comparing : BinOp → Objects → Value → Value → Answer Value
comparing op m (Int n) w = binary op (Int n) w
comparing op m (Uint n) w = binary op (Uint n) w
comparing op m v w = compared m op v w

-- a pointer and an integer, of which the pointer is the first or the second
abbrev pub moving : Bool → Bool → Objects → Value → Value → Answer Value
moving true subtracted m v w = moved m subtracted v w
moving false subtracted m v w = moved m subtracted w v

-- the type in which the operator computes, from those of the place and of the right side (6.3.1.8, 6.5.7 paragraph 3)
abbrev pub computing : BinOp → IntType → IntType → IntType
computing ShiftLeft left right = promoted left
computing ShiftRight left right = promoted left
computing op left right = right

abbrev pub is_subtraction : BinOp → Bool
is_subtraction Sub = true
is_subtraction op = false

-- the new value of a place, from its old one and the right side (6.5.16.2)
abbrev pub updated : BinOp → CType → CType → Objects → Value → Value → Answer Value
updated op (integer i) (integer k) m before v =
    and_then (convert (computing op i k) before) (λ x. and_then (binary op x v) (λ y. convert i y))
updated op (pointer t) u m before v = moved m (is_subtraction op) before v
updated op t u m before v = undefined U13

-- a call, with the events that stand before and after it
abbrev pub with_marks : Marks → ℕ → Result Value → Result Value
with_marks marks site r = after ((marks site).0) (then_do r (λ v st. Go v st ((marks site).1)))

-- a function without a value owes none
abbrev pub wants : Bool → CType → Bool
wants wanted void = false
wants wanted t = wanted

-- a null call is the event that it names
abbrev pub null_call : (ℕ → Event) → List Value → State → Result Value
null_call event (Uint site ∷ []) st = Go Indeterminate st (event site ∷ [])
null_call event vs st = Stop (Undefined U13) []

-- a call of a function that has no definition: a system call, or one of the two null calls
abbrev pub call_undefined : ℕ → List Value → State → Result Value
call_undefined x vs st =
    if nat_lt x 24
    then system_call x vs st
    else (if nat_eq x 24 then null_call Pre vs st else (if nat_eq x 25 then null_call Post vs st else Stop (Undefined U13) []))

-- a call of the function with this number (6.5.2.2)
abbrev pub called : Program → World → Bool → ℕ → List Value → State → Result Value
called p w wanted f vs st =
    if nat_lt f (defined p) then w.enter wanted f vs st else call_undefined (f - defined p) vs st

-- a call of a system call through a pointer; the null calls have no address
abbrev pub system_call_alone : ℕ → List Value → State → Result Value
system_call_alone x vs st = if nat_lt x 24 then system_call x vs st else Stop (Undefined U13) []

-- a call through a pointer to the function with this number
abbrev pub called_through : Program → World → Bool → ℕ → List Value → State → Result Value
called_through p w wanted f vs st =
    if nat_lt f (defined p) then w.enter wanted f vs st else system_call_alone (f - defined p) vs st

-- whether a scalar is not 0
abbrev pub tested : Result Value → Result Bool
tested r = then_do r (λ v st. answered (test st.memory v) st)

module _ (p : Program) (w : World) (marks : Marks) (fr : Frame) where
  abbrev mutual
    -- the value of an expression, or the place where it is one; whether the value of a call is wanted there
    pub eval : Bool → Expr → State → Result Value
    eval wanted (constant t v) st = Go v st []
    eval wanted (function_name t f) st = Go (Func f) st []
    eval wanted (string_place t n) st = Go (place (static_name n) 0 (cells p.structs t)) st []
    eval wanted (variable t s n) st = Go (place (name_in fr s n) 0 (cells p.structs t)) st []
    eval wanted (dereference t a) st = then_do (eval true a st) (λ v st. answered (behind_of t st.memory v) st)
    eval wanted (load t a) st = then_do (eval true a st) (λ q st. answered (load_place st.memory q) st)
    eval wanted (address_of t a) st = eval true a st
    eval wanted (decay t a) st = then_do (eval true a st) (λ q st. answered (decayed p.structs (type_of a) q) st)
    eval wanted (discard t a) st = then_do (eval false a st) (λ v st. Go Indeterminate st [])
    eval wanted (field t first a) st = then_do (eval true a st) (λ q st. answered (member first (cells p.structs t) q) st)
    eval wanted (unary_operation t op a) st = then_do (eval true a st) (λ v st. answered (operated op st.memory v) st)
    eval wanted (conversion t to a) st = then_do (eval true a st) (λ v st. answered (convert to v) st)
    eval wanted (arithmetic t op a b) st =
        then_do (eval true a st) (λ v st. then_do (eval true b st) (λ u st. answered (binary op v u) st))
    eval wanted (comparison t op a b) st =
        then_do (eval true a st) (λ v st. then_do (eval true b st) (λ u st. answered (comparing op st.memory v u) st))
    eval wanted (pointer_add t first subtracted a b) st =
        then_do (eval true a st) (λ v st. then_do (eval true b st) (λ u st. answered (moving first subtracted st.memory v u) st))
    eval wanted (pointer_diff t a b) st =
        then_do (eval true a st) (λ v st. then_do (eval true b st) (λ u st. answered (difference st.memory v u) st))
    eval wanted (and t a b) st =
        then_do (tested (eval true a st)) (λ holds st. either holds (then_do (tested (eval true b st)) (λ holds st. Go (truth_value holds) st [])) (Go (truth_value false) st []))
    eval wanted (or t a b) st =
        then_do (tested (eval true a st)) (λ holds st. either holds (Go (truth_value true) st []) (then_do (tested (eval true b st)) (λ holds st. Go (truth_value holds) st [])))
    eval wanted (assign t a b) st =
        then_do (eval true a st) (λ q st. then_do (eval true b st) (λ v st. remembered (store_place st.memory q v) v st))
    eval wanted (update t op old a b) st =
        then_do (eval true a st) (λ q st. then_do (answered (load_place st.memory q) st) (λ before st.
        then_do (eval true b st) (λ v st. then_do (answered (updated op t (type_of b) st.memory before v) st) (λ new st.
        remembered (store_place st.memory q new) (either old before new) st))))
    eval wanted (conditional t c a b) st = then_do (tested (eval true c st)) (λ holds st. either holds (eval true a st) (eval true b st))
    eval wanted (comma t es) st = eval_each wanted es st
    eval wanted (call t site f args) st =
        then_do (eval_all args st) (λ vs st. with_marks marks site (called p w (wants wanted t) f vs st))
    eval wanted (call_through t site designator args) st =
        then_do (eval true designator st) (λ v st. then_do (eval_all args st) (λ vs st.
        with_marks marks site (then_do (answered (callee v) st) (λ f st. called_through p w (wants wanted t) f vs st))))

    -- the members of a comma expression; the last gives the value (6.5.17)
    pub eval_each : Bool → Exprs → State → Result Value
    eval_each wanted no_exprs st = Stop (Undefined U13) []
    eval_each wanted (more_exprs e no_exprs) st = eval wanted e st
    eval_each wanted (more_exprs e (more_exprs f es)) st = then_do (eval false e st) (λ v st. eval_each wanted (more_exprs f es) st)

    -- the values of arguments, from the first on
    pub eval_all : Exprs → State → Result (List Value)
    eval_all no_exprs st = Go [] st []
    eval_all (more_exprs e es) st = then_do (eval true e st) (λ v st. then_do (eval_all es st) (λ vs st. Go (v ∷ vs) st []))

-- the value of the condition of a loop; a missing one holds (6.8.5.3 paragraph 2)
abbrev pub condition : Program → World → Marks → Frame → Maybe → State → Result Bool
condition p w marks fr absent st = Go true st []
condition p w marks fr (there e) st = tested (eval p w marks fr true e st)

-- an expression that is evaluated for its effects, where there is one
abbrev pub perhaps : Program → World → Marks → Frame → Maybe → State → Result Exit
perhaps p w marks fr absent st = Go on st []
perhaps p w marks fr (there e) st = then_do (eval p w marks fr false e st) (λ v st. Go on st [])

-- cells of a variable get their values, in order (6.7.8)
abbrev pub initialise : Program → World → Marks → Frame → ℕ → Inits → State → Result Exit
initialise p w marks fr x no_inits st = Go on st []
initialise p w marks fr x (more_inits cell e is) st =
    then_do (eval p w marks fr true e st) (λ v st. then_do (remembered (store_place st.memory (place (name_in fr false x) cell 1) v) v st) (λ v st. initialise p w marks fr x is st))

-- a variable has new cells, which are indeterminate (6.2.4 paragraph 5)
abbrev pub fresh : Structs → Frame → ℕ → Option CType → State → Result Exit
fresh structs fr x None st = Stop (Undefined U13) []
fresh structs fr x (Some t) st = Go on (with_memory st (declared st.memory (name_in fr false x) (cells structs t))) []

-- the variables that statements declare directly
abbrev pub declared_by : Stmt → List ℕ
declared_by (declare x is) = x ∷ []
declared_by s = []

abbrev pub declared_in : Stmts → List ℕ
declared_in no_stmts = []
declared_in (more_stmts s ss) = declared_by s ++ declared_in ss

-- variables of an activation end (6.2.4 paragraph 5)
abbrev pub without : ℕ → List ℕ → Objects → Objects
without activation [] m = m
without activation (x ∷ xs) m = without activation xs (ended m (record { activation = activation; variable = x }))

abbrev pub leaving : Frame → List ℕ → Result Exit → Result Exit
leaving fr xs r = then_do r (λ x st. Go x (with_memory st (without fr.activation xs st.memory)) [])

-- whether two integers of one type are the same
abbrev pub same_integer : Value → Value → Bool
same_integer (Int a) (Int b) = int_eq a b
same_integer (Uint a) (Uint b) = nat_eq a b
same_integer v w = false

abbrev pub is_case : Value → TLabel → Bool
is_case v (Case u) = same_integer v u
is_case v Default = false

abbrev pub is_default : TLabel → Bool
is_default (Case u) = false
is_default Default = true

-- the number of the first group with such a label
abbrev pub group_with : (TLabel → Bool) → Groups → Option ℕ
group_with is no_groups = None
group_with is (more_groups labels ss gs) = if list_any is labels then Some 0 else option_map suc (group_with is gs)

abbrev pub count_groups : Groups → ℕ
count_groups no_groups = 0
count_groups (more_groups labels ss gs) = suc (count_groups gs)

abbrev pub or_else : Option ℕ → ℕ → ℕ
or_else None n = n
or_else (Some k) n = k

-- the group at which a switch goes on: that of the case, or that of default, or past all groups (6.8.4.2 paragraph 5)
abbrev pub selected : Value → Groups → ℕ
selected v gs = or_else (group_with (is_case v) gs) (or_else (group_with is_default gs) (count_groups gs))

module _ (p : Program) (w : World) (marks : Marks) (fr : Frame) where
  abbrev mutual
    -- what a statement does, and how it is left
    pub exec : Stmt → State → Result Exit
    exec (block ss) st = leaving fr (declared_in ss) (exec_all ss st)
    exec empty st = Go on st []
    exec (evaluate e) st = then_do (eval p w marks fr false e st) (λ v st. Go on st [])
    exec (declare x is) st =
        then_do (fresh p.structs fr x (slice_get fr.types x) st) (λ y st. initialise p w marks fr x is st)
    exec (if_else e s r) st = then_do (tested (eval p w marks fr true e st)) (λ holds st. either holds (exec s st) (exec r st))
    exec (while_loop e s) st = w.again fr (record { test = there e; body = s; step = absent }) st
    exec (do_loop s e) st =
        then_do (exec s st) (λ x st. on_round x st (w.again fr (record { test = there e; body = s; step = absent })))
    exec (for_loop first test step s) st =
        leaving fr (declared_in first) (then_do (exec_all first st) (λ x st. on_exit x st (w.again fr (record { test = test; body = s; step = step }))))
    exec (switch_on e gs) st =
        then_do (eval p w marks fr true e st) (λ v st. then_do (exec_from (selected v gs) gs st) (λ x st. Go (out_of_switch x) st []))
    exec break_off st = Go broken st []
    exec continue_on st = Go continued st []
    exec return_void st = Go (returned None) st []
    exec (return_value e) st = then_do (eval p w marks fr true e st) (λ v st. Go (returned (Some v)) st [])

    pub exec_all : Stmts → State → Result Exit
    exec_all no_stmts st = Go on st []
    exec_all (more_stmts s ss) st = then_do (exec s st) (λ x st. on_exit x st (exec_all ss))

    -- the statements of the groups from the one with this number on
    pub exec_from : ℕ → Groups → State → Result Exit
    exec_from n no_groups st = Go on st []
    exec_from zero (more_groups labels ss gs) st = then_do (exec_all ss st) (λ x st. on_exit x st (exec_from zero gs))
    exec_from (suc n) (more_groups labels ss gs) st = exec_from n gs st
