-- What the pieces of a marked call do, and what stays as it was round them.
use Rattle.std.specs.Prelude.{◌≡◌, ℕ, suc, ◌+◌, Bool, true, false, List, [], ◌∷◌, Some, slice_get}
use Rattle.std.specs.Option.{option_map}
use Rattle.dm_base.specs.declared.event.Event.{Event}
use Rattle.dm_base.specs.declared.event.Event.TheVariants.{Pre, Post}
use Rattle.c_tree.specs.declared.value.Value.{Value}
use Rattle.c_tree.specs.declared.value.Value.TheVariants.{Indeterminate}
use Rattle.c_tree.specs.Tree.{CType, Expr, Stmts, Groups, Program, type_of}
use Rattle.c_tree.specs.Layout.{Structs, cells}
use Rattle.c_tree.specs.Functions.{defined}
use Rattle.c_tree.specs.Typed.{IsValue, IsPlace}
use Rattle.c_values.specs.Memory.{Objects, changed, declared}
use Rattle.c_meaning.specs.Meaning.{Marks, Frame, World, name_in, eval, eval_all, exec_all, declared_in, selected}
use Rattle.c_meaning.specs.Results.{State, with_memory, Go}
use Rattle.c_meaning.specs.Runs.{no_marks}
use Rattle.null_calls_laws.specs.InstrumentedPrograms.{keep, kept_value, kept_values, null_call, pre_number, post_number, expr, groups, stmts, declared_from, instrumented_function, instrumented_program}

-- a temporary of the activation that runs has the value
abbrev pub IsKept : Objects → Frame → ℕ → Value → Type 0
IsKept m fr k v = m (name_in fr false k) ≡ Some (record { cells = v ∷ []; string = false })

abbrev pub IsSet : Value → Type 0
IsSet Indeterminate = ⊥
IsSet v = Unit {0}

-- temporaries of these types from k on have values, which are set
abbrev pub AreKept : Objects → Frame → ℕ → List CType → List Value → Type 0
AreKept m fr k [] [] = Unit {0}
AreKept m fr k (t ∷ ts) (v ∷ vs) = IsKept m fr k v × IsSet v × AreKept m fr (suc k) ts vs
AreKept m fr k ts vs = ⊥

-- in a program with null calls round its marked calls, a null call is the event that it names
abbrev pub NullCallsAreEvents : Type 0
NullCallsAreEvents =
    (p : Program) (w : World) (fr : Frame) (wanted : Bool) (site : ℕ) (st : State) → (eval (instrumented_program p) w no_marks fr wanted (null_call (pre_number p) site) st ≡ Go Indeterminate st (Pre site ∷ [])) × (eval (instrumented_program p) w no_marks fr wanted (null_call (post_number p) site) st ≡ Go Indeterminate st (Post site ∷ []))

-- to keep a value evaluates the expression, and then the temporary has its value
abbrev pub KeepingSets : Type 0
KeepingSets =
    (p : Program) (w : World) (marks : Marks) (fr : Frame) (wanted : Bool) (t : CType) (k : ℕ) (e : Expr) (v old : Value) (st after : State) (events : List Event) → eval p w marks fr true e st ≡ Go v after events → IsKept after.memory fr k old → eval p w marks fr wanted (keep t k e) st ≡ Go v (with_memory after (changed after.memory (name_in fr false k) (Some (record { cells = v ∷ []; string = false })))) events

-- a value that was kept is given again
abbrev pub KeptIsGiven : Type 0
KeptIsGiven =
    (p : Program) (w : World) (marks : Marks) (fr : Frame) (wanted : Bool) (t : CType) (k : ℕ) (v : Value) (st : State) → IsKept st.memory fr k v → IsSet v → eval p w marks fr wanted (kept_value t k) st ≡ Go v st []

-- and so are the arguments
abbrev pub KeptAreGiven : Type 0
KeptAreGiven =
    (p : Program) (w : World) (marks : Marks) (fr : Frame) (k : ℕ) (ts : List CType) (vs : List Value) (st : State) → AreKept st.memory fr k ts vs → eval_all p w marks fr (kept_values k ts) st ≡ Go vs st []

-- the state in which temporaries of these types from k on have new cells
abbrev pub declaring : Structs → Frame → ℕ → List CType → State → State
declaring structs fr k [] st = st
declaring structs fr k (t ∷ ts) st =
    declaring structs fr (suc k) ts (with_memory st (declared st.memory (name_in fr false k) (cells structs t)))

-- the declarations that begin a function's body give each temporary its cells
abbrev pub DeclarationsDeclare : Type 0
DeclarationsDeclare =
    (p q : Program) (w : World) (marks : Marks) (fr : Frame) (k : ℕ) (ts : List CType) (ss : Stmts) (st : State) → ((i : ℕ) (t : CType) → slice_get ts i ≡ Some t → slice_get fr.types (k + i) ≡ Some t) → exec_all q w marks fr (declared_from p k ts ss) st ≡ exec_all q w marks fr ss (declaring q.structs fr k ts st)

-- an expression whose value is wanted, and a place, have the types that they had
abbrev pub TypesStay : Type 0
TypesStay =
    (p : Program) (vars : List CType) (k : ℕ) (e : Expr) → (IsValue p vars e → type_of (expr p k true e) ≡ type_of e) × (IsPlace p vars e → (wanted : Bool) → type_of (expr p k wanted e) ≡ type_of e)

-- functions keep their numbers, blocks their variables, and a switch goes on at the same group
pub record KeepsShapes (p : Program) : Type 0 where
  pub many : defined (instrumented_program p) ≡ defined p
  pub functions : (f : ℕ) → slice_get (instrumented_program p).functions f ≡ option_map (instrumented_function p) (slice_get p.functions f)
  pub variables : (k : ℕ) (ss : Stmts) → declared_in (stmts p k ss) ≡ declared_in ss
  pub selection : (k : ℕ) (v : Value) (gs : Groups) → selected v (groups p k gs) ≡ selected v gs

abbrev pub ShapesStay : Type 0
ShapesStay = (p : Program) → KeepsShapes p
