-- What results of calls tell of the answers of the definitions.
use Rattle.std.specs.Prelude.{ℕ, Result, Ok, Err}
use Rattle.c_values.specs.Answers.{Answer, gives, undefined}

-- the answer that is told: the value, or the number of the kind
abbrev pub told : {A : Type 0} → Result A ℕ → Answer A
told (Ok a) = gives a
told (Err kind) = undefined kind

-- the answer that is told by a call that leaves a value behind
abbrev pub left : {A T : Type 0} → A → Result T ℕ → Answer A
left new (Ok t) = gives new
left new (Err kind) = undefined kind
