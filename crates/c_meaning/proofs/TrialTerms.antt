-- Terms of small programs, and what their runs give.
use Rattle.std.specs.Prelude.{◌≡◌, ℕ, ℤ, pos, Bool, true, false, List, [], ◌∷◌, map, codes}
use Rattle.dm_base.specs.declared.event.Event.{Event}
use Rattle.dm_base.specs.declared.event.Event.TheVariants.{Sys}
use Rattle.dm_base.specs.declared.outcome.Outcome.TheVariants as outcomes
use Rattle.sys_table.specs.declared.sys_result.SysResult.{SysResult}
use Rattle.c_tree.specs.declared.value.IntType.TheVariants as types
use Rattle.c_tree.specs.declared.value.Value.{Value}
use Rattle.c_tree.specs.declared.value.Value.TheVariants as v
use Rattle.c_tree.specs.Tree.{CType, integer, pointer, array, function, no_types, more_types, Static}
use Rattle.c_tree.specs.Tree.{Expr, constant, variable, dereference, load, decay, assign, pointer_add, Exprs, no_exprs, more_exprs}
use Rattle.c_tree.specs.Tree.{Stmt, block, evaluate, return_value, Stmts, no_stmts, more_stmts}
use Rattle.c_tree.specs.Functions.{int, unsigned_int, of_none}
use Rattle.c_tree.proofs.TypedTrials.{function_with}
use Rattle.c_meaning.specs.Runs.{Run, run}

-- the run of a program with main alone, whose body, variables and statics these are; system call x is function 1 + x
abbrev pub run_of : List CType → List Static → Stmt → List SysResult → ℕ → Run
run_of variables statics body records turns =
    run (record { structs = []; functions = function_with (codes "main") (of_none int) variables body ∷ []; main = 0; statics = statics }) records turns

-- the run of a program with f and main, of which main has these variables; system call x is function 2 + x
abbrev pub run_of_two : Stmt → List CType → List Static → Stmt → List SysResult → ℕ → Run
run_of_two f variables statics body records turns =
    run (record { structs = []; functions = function_with (codes "f") (of_none int) [] f ∷ function_with (codes "main") (of_none int) variables body ∷ []; main = 1; statics = statics }) records turns

-- each of these runs is the one beside it
abbrev pub AllAre : List (Run × Run) → Type 0
AllAre ts = map (λ t. t.0) ts ≡ map (λ t. t.1) ts

abbrev pub exits : ℤ → List Event → Run
exits z t = record { outcome = outcomes.Exit z; trace = t }

abbrev pub undefined_after : ℕ → List Event → Run
undefined_after kind t = record { outcome = outcomes.Undefined kind; trace = t }

abbrev pub result : ℤ → List ℕ → SysResult
result value bytes = record { value = value; bytes = bytes }

-- getpid, number 14, with this result
abbrev pub getpid : ℕ → Event
getpid n = Sys 14 [] (pos n)

abbrev pub stmts : List Stmt → Stmts
stmts [] = no_stmts
stmts (s ∷ ss) = more_stmts s (stmts ss)

abbrev pub body : List Stmt → Stmt
body ss = block (stmts ss)

abbrev pub exprs : List Expr → Exprs
exprs [] = no_exprs
exprs (e ∷ es) = more_exprs e (exprs es)

abbrev pub char : CType
char = integer types.Char

abbrev pub int_pointer : CType
int_pointer = pointer int

-- int (*)(int)
abbrev pub function_type : CType
function_type = function int (more_types int no_types)

abbrev pub number : ℕ → Expr
number n = constant int (v.Int (pos n))

abbrev pub size : ℕ → Expr
size n = constant unsigned_int (v.Uint n)

-- a variable of the function, and a static one
abbrev pub own : CType → ℕ → Expr
own t n = variable t false n

abbrev pub static : CType → ℕ → Expr
static t n = variable t true n

-- its value
abbrev pub value : CType → ℕ → Expr
value t n = load t (own t n)

abbrev pub static_value : CType → ℕ → Expr
static_value t n = load t (static t n)

abbrev pub of_cells : CType → List Value → Bool → Static
of_cells t cells string = record { ctype = t; cells = cells; string = string }

-- a null pointer to this type, as a static
abbrev pub null_static : CType → Static
null_static t = of_cells (pointer t) (v.Null ∷ []) false

-- the string "a"
abbrev pub string_a : Static
string_a = of_cells (array char 2) (v.Char (pos 97) ∷ v.Char (pos 0) ∷ []) true

-- an array of so many elements as a pointer to its first
abbrev pub first_of : CType → Expr → Expr
first_of t a = decay (pointer t) a

-- so many elements on
abbrev pub further : CType → Expr → ℕ → Expr
further t a n = pointer_add (pointer t) true false a (number n)

abbrev pub behind : CType → Expr → Expr
behind t a = dereference t a

abbrev pub set : CType → Expr → Expr → Stmt
set t a b = evaluate (assign t a b)

abbrev pub return_0 : Stmt
return_0 = return_value (number 0)
