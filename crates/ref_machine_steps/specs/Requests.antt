-- What a system call asks for, as the code holds it, and what results tell of it.
use Rattle.std.specs.Prelude.{◌≡◌, ℤ, pos, List, [], ◌∷◌, Option, None, Some, Result, Ok, Err}
use Rattle.dm_base.specs.declared.event.Arg.{Arg}
use Rattle.dm_base.specs.declared.event.Event.TheVariants.{Sys}
use Rattle.dm_base.specs.declared.outcome.Outcome.TheVariants.{Exit as ended_by, Undefined}
use Rattle.ref_machine_steps.specs.declared.fault.Fault.{Fault}
use Rattle.ref_machine_steps.specs.declared.step_error.StepError.{StepError}
use Rattle.ref_machine_steps.specs.declared.requests.Request.{Request}
use Rattle.ref_machine_steps.specs.Asking.{IsRefusal}
use Rattle.ref_machine_steps.specs.Faults.{number_of}
use Rattle.c_tree.specs.declared.value.Value.{Value}
use Rattle.c_values.specs.Answers.{Answer, gives, undefined, U13}
use Rattle.c_meaning.specs.Results.{Stop}
use Rattle.c_meaning.specs.Results.{Result as TypedExpression}
use Rattle.c_meaning.specs.SystemCalls.{Request as Asked, exit_call}

-- the request
abbrev pub asked_by : Request → Asked
asked_by r = record { arguments = r.arguments; asked = r.asked; buffer = r.buffer }

-- the request that a step tells
abbrev pub told_request : Result Request Fault → Answer Asked
told_request (Ok r) = gives (asked_by r)
told_request (Err fault) = undefined (number_of fault)

-- a result tells the request, unless memory was wanted
abbrev pub TellsRequest : Result Request StepError → Answer Asked → Type 0
TellsRequest (Ok r) answer = gives (asked_by r) ≡ answer
TellsRequest (Err error) answer = IsRefusal error answer

-- how `_exit` ends the run, with this status or where it has none
abbrev pub exited : List Arg → Option ℤ → TypedExpression Value
exited arguments (Some status) = Stop (ended_by status) (Sys exit_call arguments (pos 0) ∷ [])
exited arguments None = Stop (Undefined U13) []
