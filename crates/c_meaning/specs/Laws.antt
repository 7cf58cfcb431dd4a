-- The laws on well-typed programs: values have the kinds of their types, and pointers lie in their objects.
use Rattle.std.specs.Prelude.{ℕ, ◌<◌, ◌*◌, List, All}
use Rattle.c_meaning.specs.SysResult.{SysResult}
use Rattle.c_meaning.specs.Table.{IsRecorded}
use Rattle.c_tree.specs.declared.value.Pointer.{Pointer}
use Rattle.c_tree.specs.declared.value.Value.TheVariants.{At}
use Rattle.c_tree.specs.Tree.{CType, Program}
use Rattle.c_tree.specs.Kinds.{Objects, static_objects}
use Rattle.c_tree.specs.Program.{IsProgram}
use Rattle.c_meaning.specs.Memory.{IsInside}
use Rattle.c_meaning.specs.Memory.{Objects as Memory}
use Rattle.c_meaning.specs.Meaning.{Marks}
use Rattle.c_meaning.specs.Runs.{Run, world, beginning, run_with}
use Rattle.c_meaning.specs.StoreTyping.{HasKind, IsPlaced, IsTypedMemory, IsTypedState, TellsOfStatics}
use Rattle.c_meaning.specs.TypedResults.{IsEnding, IsTypedWorld, AreRecorded, ValuesAreTyped, PlacesAreTyped, ArgumentsAreTyped, StatementsAreTyped}

-- a run ends rightly, and each of its events can be recorded
pub record IsTypedRun (r : Run) : Type 0 where
  pub outcome : IsEnding r.outcome
  pub trace : All IsRecorded r.trace

-- no run of a well-typed program meets a value of another kind than its type
abbrev pub RunsAreTyped : Type 0
RunsAreTyped =
    (p : Program) (n : ℕ) → IsProgram p n → (marks : Marks) → AreRecorded marks → (records : List SysResult) (turns : ℕ) → IsTypedRun (run_with p marks records turns)

-- a run begins in a typed state, which tells of the static objects and strings alone
pub record BeginsTyped (p : Program) (records : List SysResult) (turns : ℕ) : Type 0 where
  pub statics : TellsOfStatics p (static_objects p)
  pub state : IsTypedState p (static_objects p) (beginning p records turns)

abbrev pub RunsBeginTyped : Type 0
RunsBeginTyped = (p : Program) (n : ℕ) → IsProgram p n → (records : List SysResult) (turns : ℕ) → BeginsTyped p records turns

-- what so many turns are enough for keeps types: entries of functions, loops, expressions, places, arguments and statements
pub record PartsAreTyped (p : Program) (marks : Marks) (turns : ℕ) : Type 0 where
  pub turning : IsTypedWorld p (world p marks turns)
  pub values : ValuesAreTyped p (world p marks turns) marks
  pub places : PlacesAreTyped p (world p marks turns) marks
  pub arguments : ArgumentsAreTyped p (world p marks turns) marks
  pub statements : StatementsAreTyped p (world p marks turns) marks

abbrev pub TypesAreKept : Type 0
TypesAreKept =
    (p : Program) (n : ℕ) → IsProgram p n → (marks : Marks) → AreRecorded marks → (turns : ℕ) → PartsAreTyped p marks turns

-- a pointer value lies in its object or one past, where its array has a cell
abbrev pub PointersAreInside : Type 0
PointersAreInside =
    (p : Program) (n : ℕ) → IsProgram p n → (o : Objects) (m : Memory) (t : CType) (q : Pointer) → IsTypedMemory p o m → HasKind p o t (At q) → 0 < q.elements * q.width → IsInside m q

-- and so does a place
abbrev pub PlacesAreInside : Type 0
PlacesAreInside =
    (p : Program) (n : ℕ) → IsProgram p n → (o : Objects) (m : Memory) (t : CType) (q : Pointer) → IsTypedMemory p o m → IsPlaced p o t (At q) → 0 < q.width → IsInside m q
