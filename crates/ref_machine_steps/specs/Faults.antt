-- What results of steps tell of the answers of the definitions.
use Rattle.std.specs.Prelude.{ℕ, Result, Ok, Err}
use Rattle.ref_machine_steps.specs.declared.fault.Fault.{Fault}
use Rattle.ref_machine_steps.specs.declared.fault.Fault.TheVariants.{Undefined, Mistyped}
use Rattle.c_values.specs.Answers.{Answer, gives, undefined, U13}

-- the number of the kind that a fault tells of
abbrev pub number_of : Fault → ℕ
number_of (Undefined kind) = kind
number_of Mistyped = U13

-- the answer that a step tells
abbrev pub told : {A : Type 0} → Result A Fault → Answer A
told (Ok a) = gives a
told (Err fault) = undefined (number_of fault)

-- the answer that is told by a step that leaves a value behind
abbrev pub left : {A T : Type 0} → A → Result T Fault → Answer A
left new (Ok t) = gives new
left new (Err fault) = undefined (number_of fault)
