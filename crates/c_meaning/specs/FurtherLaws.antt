-- The law on further objects: what a part of a well-typed program does depends on no object to which no pointer leads.
use Rattle.std.specs.Prelude.{◌≡◌, ℕ, ◌≤◌, Bool, true, List, [], Some, slice_get}
use Rattle.std.specs.List.{AllZip}
use Rattle.c_tree.specs.declared.value.Value.{Value}
use Rattle.c_tree.specs.Tree.{CType, function, CTypes, list_of, Expr, Exprs, Stmt, Function, Program}
use Rattle.c_tree.specs.Typed.{IsValue, IsPlace, AreArguments, IsTest, IsStep, IsStmt}
use Rattle.c_tree.specs.Kinds.{Objects, static_objects}
use Rattle.c_tree.specs.Program.{IsProgram}
use Rattle.c_meaning.specs.Memory.{Objects as Memory}
use Rattle.c_meaning.specs.Mentions.{mentions, mentions_of_all, mentions_of_stmt}
use Rattle.c_meaning.specs.Meaning.{Marks, Frame, Loop, World, eval, eval_all, exec}
use Rattle.c_meaning.specs.Results.{State, with_memory, Exit}
use Rattle.c_meaning.specs.SysResult.{SysResult}
use Rattle.c_meaning.specs.Runs.{world, enter, beginning, ending, run_with}
use Rattle.c_meaning.specs.StoreTyping.{HasKind, IsTypedState, TellsOfStatics, IsTypedFrame}
use Rattle.c_meaning.specs.TypedResults.{StandsIn, StandsRound, AreRecorded}
use Rattle.c_meaning.specs.FurtherObjects.{IsBeside, DoesAlike}

-- a typed state, and a memory that has further objects
pub record StandsBeside (p : Program) (o : Objects) (last : ℕ) (st : State) (more : Memory) : Type 0 where
  pub state : IsTypedState p o st
  pub started : last ≤ st.entries
  pub beside : IsBeside o last st.memory more

-- a call of a function
abbrev pub CallsDoAlike : Program → World → Type 0
CallsDoAlike p w =
    (wanted : Bool) (f : ℕ) (g : Function) (r : CType) (ts : CTypes) (vs : List Value) (o : Objects) (last : ℕ) (st : State) (more : Memory) → slice_get p.functions f ≡ Some g → g.ctype ≡ function r ts → TellsOfStatics p o → AllZip (HasKind p o) (list_of ts) vs → StandsBeside p o last st more → DoesAlike {A = Value} o last more (w.enter wanted f vs st) (w.enter wanted f vs (with_memory st more))

-- a loop
abbrev pub LoopsDoAlike : Program → World → Type 0
LoopsDoAlike p w =
    (fr : Frame) (r : CType) (l : Loop) (o : Objects) (last : ℕ) (st : State) (more : Memory) → IsTypedFrame p o fr → IsTest p fr.types l.test → IsStmt p fr.types r true true l.body → IsStep p fr.types l.step → StandsRound p l → StandsBeside p o last st more → DoesAlike {A = Exit} o last more (w.again fr l st) (w.again fr l (with_memory st more))

-- an expression that gives a value
abbrev pub ValuesDoAlike : Program → World → Marks → Type 0
ValuesDoAlike p w marks =
    (fr : Frame) (wanted : Bool) (e : Expr) (o : Objects) (last : ℕ) (st : State) (more : Memory) → IsTypedFrame p o fr → IsValue p fr.types e → StandsIn p (mentions e) → StandsBeside p o last st more → DoesAlike {A = Value} o last more (eval p w marks fr wanted e st) (eval p w marks fr wanted e (with_memory st more))

-- an expression that gives a place
abbrev pub PlacesDoAlike : Program → World → Marks → Type 0
PlacesDoAlike p w marks =
    (fr : Frame) (wanted : Bool) (e : Expr) (o : Objects) (last : ℕ) (st : State) (more : Memory) → IsTypedFrame p o fr → IsPlace p fr.types e → StandsIn p (mentions e) → StandsBeside p o last st more → DoesAlike {A = Value} o last more (eval p w marks fr wanted e st) (eval p w marks fr wanted e (with_memory st more))

-- arguments
abbrev pub ArgumentsDoAlike : Program → World → Marks → Type 0
ArgumentsDoAlike p w marks =
    (fr : Frame) (ts : CTypes) (es : Exprs) (o : Objects) (last : ℕ) (st : State) (more : Memory) → IsTypedFrame p o fr → AreArguments p fr.types ts es → StandsIn p (mentions_of_all es) → StandsBeside p o last st more → DoesAlike {A = List Value} o last more (eval_all p w marks fr es st) (eval_all p w marks fr es (with_memory st more))

-- a statement
abbrev pub StatementsDoAlike : Program → World → Marks → Type 0
StatementsDoAlike p w marks =
    (fr : Frame) (r : CType) (breaks continues : Bool) (s : Stmt) (o : Objects) (last : ℕ) (st : State) (more : Memory) → IsTypedFrame p o fr → IsStmt p fr.types r breaks continues s → StandsIn p (mentions_of_stmt s) → StandsBeside p o last st more → DoesAlike {A = Exit} o last more (exec p w marks fr s st) (exec p w marks fr s (with_memory st more))

-- the parts of a program that so many turns are enough for
pub record PartsDoAlike (p : Program) (marks : Marks) (turns : ℕ) : Type 0 where
  pub calls : CallsDoAlike p (world p marks turns)
  pub loops : LoopsDoAlike p (world p marks turns)
  pub values : ValuesDoAlike p (world p marks turns) marks
  pub places : PlacesDoAlike p (world p marks turns) marks
  pub arguments : ArgumentsDoAlike p (world p marks turns) marks
  pub statements : StatementsDoAlike p (world p marks turns) marks

abbrev pub FurtherObjectsChangeNothing : Type 0
FurtherObjectsChangeNothing =
    (p : Program) (n : ℕ) → IsProgram p n → (marks : Marks) → AreRecorded marks → (turns : ℕ) → PartsDoAlike p marks turns

-- a run that begins with further static objects, past those of the program, is the run without them
abbrev pub RunsDoAlike : Type 0
RunsDoAlike =
    (p : Program) (n : ℕ) → IsProgram p n → (marks : Marks) → AreRecorded marks → (records : List SysResult) (turns : ℕ) (more : Memory) → IsBeside (static_objects p) 0 (beginning p records turns).memory more → ending (enter p (world p marks turns) marks true p.main [] (with_memory (beginning p records turns) more)) ≡ run_with p marks records turns
