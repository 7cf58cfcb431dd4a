-- What a system call comes to with a recorded result.
use Rattle.std.specs.Prelude.{◌≡◌, ℕ, suc, List, [], ◌∷◌, Result, Ok, Err}
use Rattle.dm_base.specs.declared.event.Event.{Event}
use Rattle.dm_base.specs.declared.outcome.Outcome.TheVariants.{Undefined, BadResult as bad_result}
use Rattle.sys_table.specs.declared.sys_result.SysResult.{SysResult}
use Rattle.c_tree.specs.declared.value.Value.{Value}
use Rattle.c_values.specs.Memory.{Objects}
use Rattle.c_meaning.specs.Results.{State, with_memory, Go, Stop}
use Rattle.c_meaning.specs.Results.{Result as TypedExpression}
use Rattle.c_meaning.specs.SystemCalls.{Request as Asked, with_records, take_record}
use Rattle.ref_machine_steps.specs.declared.fault.Fault.{Fault}
use Rattle.ref_machine_steps.specs.declared.records.Called.{Called}
use Rattle.ref_machine_steps.specs.declared.records.Called.TheVariants.{Answered, BadResult}
use Rattle.ref_machine_steps.specs.Faults.{number_of}

-- how the run goes on after the event: with the value, in this memory, or not at all
abbrev pub goes_on : Event → Result Value Fault → State → TypedExpression Value
goes_on event (Ok v) st = Go v st (event ∷ [])
goes_on event (Err fault) st = Stop (Undefined (number_of fault)) (event ∷ [])

-- the same of the call as a whole
abbrev pub comes_to : Called → Objects → List SysResult → State → TypedExpression Value
comes_to (Answered event value) new rest st = goes_on event value (with_memory (with_records st rest) new)
comes_to BadResult new rest st = Stop (bad_result (suc st.taken)) []

-- in every state with this memory, the call with this number takes the record so, and leaves this memory
abbrev pub Takes : Objects → Objects → ℕ → Asked → SysResult → Called → Type 0
Takes old new x asked given called =
    (st : State) (rest : List SysResult) → st.memory ≡ old → take_record x asked (given ∷ rest) st ≡ comes_to called new rest st
