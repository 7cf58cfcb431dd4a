-- What results of steps that take memory tell of the answers of the definitions.
use Rattle.std.specs.Prelude.{◌≡◌, Result, Ok, Err}
use Rattle.ref_machine_steps.specs.declared.step_error.StepError.{StepError}
use Rattle.ref_machine_steps.specs.declared.step_error.StepError.TheVariants.{OutOfMemory, Faulty}
use Rattle.ref_machine_steps.specs.Faults.{number_of}
use Rattle.c_values.specs.Answers.{Answer, gives, undefined}

-- an error tells the answer; want of memory tells none
abbrev pub IsRefusal : {A : Type 0} → StepError → Answer A → Type 0
IsRefusal OutOfMemory answer = Unit {0}
IsRefusal (Faulty fault) answer = undefined (number_of fault) ≡ answer

-- a result tells the answer, unless memory was wanted
abbrev pub Tells : {A : Type 0} → Result A StepError → Answer A → Type 0
Tells (Ok a) answer = gives a ≡ answer
Tells (Err error) answer = IsRefusal error answer
