-- For private contracts and proofs alone: where a machine stands, and what is left of its run.
use Rattle.std.specs.Prelude.{◌≡◌, ℕ, ◌≤◌, List, FitsSigned}
use Rattle.std.specs.Int.{w32}
use Rattle.sys_table.specs.declared.sys_result.SysResult.{SysResult}
use Rattle.c_tree.specs.declared.value.Value.{Value}
use Rattle.c_tree.specs.Tree.{Program}
use Rattle.c_values.specs.Memory.{Objects}
use Rattle.c_meaning.specs.Results.{State, Result}
use Rattle.c_meaning.specs.Runs.{ending}
use Rattle.c_meaning.specs.TypedResults.{IsEnding}
use Rattle.ref_machine_frames.specs.Held.{world}
use Rattle.ref_machine_frames.specs.declared.frames.After.{After}
use Rattle.ref_machine_frames.specs.declared.frames.After.TheVariants as afters
use Rattle.ref_machine_frames.specs.declared.frames.Here.{Here}
use Rattle.ref_machine_frames.specs.declared.frames.Frame.{Frame}
use Rattle.ref_machine_frames.specs.declared.frames.Now.{Now}
use Rattle.ref_machine_frames.specs.declared.frames.Now.TheVariants.{Eval, Have, Exec, Left, Enter, Test, Ask, Told, Stopped, Mistyped}
use Rattle.ref_machine_frames.specs.Frames.{place_of, stack, rest}

-- the state with these parts
abbrev pub state : Objects → ℕ → List SysResult → ℕ → ℕ → State
state memory entries records taken turns = record { memory = memory; entries = entries; records = records; taken = taken; turns = turns }

-- where a machine stands: the activation, memory, the function entries so far, the turns that are left, what comes next, and what is
-- left to do after it
pub record Standing : Type 0 where
  pub here : Here
  pub memory : Objects
  pub entries : ℕ
  pub turns : ℕ
  pub now : Now
  pub todo : List Frame

-- what is left of the run, with these records to come, of which so many were taken before; n turns are enough
abbrev pub left_of : Program → ℕ → Standing → List SysResult → ℕ → Result Value
left_of p n s records taken =
    rest p (world p n) (place_of s.here) s.now (stack s.todo) (state s.memory s.entries records taken s.turns)

-- the same is left of the run
abbrev pub SameLeft : Program → Standing → Standing → Type 0
SameLeft p old new =
    (n : ℕ) (records : List SysResult) (taken : ℕ) → old.turns ≤ n → left_of p n new records taken ≡ left_of p n old records taken

-- an event was made, a record is needed, or the run has ended
abbrev pub IsPausing : Now → Type 0
IsPausing (Eval wanted e) = ⊥
IsPausing (Have v) = ⊥
IsPausing (Exec s) = ⊥
IsPausing (Left x) = ⊥
IsPausing (Enter wanted f vs) = ⊥
IsPausing (Test s) = ⊥
IsPausing (Ask x q) = Unit {0}
IsPausing (Told e next) = Unit {0}
IsPausing (Stopped o) = Unit {0}
IsPausing Mistyped = Unit {0}

-- the next step costs a turn
abbrev pub IsCostly : Now → Type 0
IsCostly (Eval wanted e) = ⊥
IsCostly (Have v) = ⊥
IsCostly (Exec s) = ⊥
IsCostly (Left x) = ⊥
IsCostly (Enter wanted f vs) = Unit {0}
IsCostly (Test s) = Unit {0}
IsCostly (Ask x q) = ⊥
IsCostly (Told e next) = ⊥
IsCostly (Stopped o) = ⊥
IsCostly Mistyped = ⊥

-- a record is needed
abbrev pub IsAsk : Now → Type 0
IsAsk (Eval wanted e) = ⊥
IsAsk (Have v) = ⊥
IsAsk (Exec s) = ⊥
IsAsk (Left x) = ⊥
IsAsk (Enter wanted f vs) = ⊥
IsAsk (Test s) = ⊥
IsAsk (Ask x q) = Unit {0}
IsAsk (Told e next) = ⊥
IsAsk (Stopped o) = ⊥
IsAsk Mistyped = ⊥

-- the status is an int, where the run ends with it
abbrev pub EndsRightly : After → Type 0
EndsRightly (afters.Have v) = Unit {0}
EndsRightly (afters.Exited status) = FitsSigned w32 status

-- with any records to come, what is left of the run ends by an outcome that a run of a well-typed program may have
abbrev pub GoesRight : Program → ℕ → Standing → ℕ → Type 0
GoesRight p n s taken = (records : List SysResult) → IsEnding (ending (left_of p n s records taken)).outcome
