-- Which events a system-call edge of a model reads.
use Rattle.std.specs.Prelude.{◌≡◌, ℕ, ℤ, List, [], ◌∷◌, Option, Some, None}
use Rattle.dm_base.specs.declared.event.Arg.{Arg}
use Rattle.dm_base.specs.declared.event.Arg.TheVariants as args
use Rattle.dm_base.specs.declared.event.Event.{Event}
use Rattle.dm_base.specs.declared.event.Event.TheVariants.{Sys, Pre, Post}

-- the argument is that number
abbrev pub IsNumber : ℤ → Arg → Type 0
IsNumber n (args.Int m) = m ≡ n
IsNumber n (args.Bytes bytes) = ⊥

-- each argument at which the pattern has a number is that number
abbrev pub FitArguments : List (Option ℤ) → List Arg → Type 0
FitArguments [] arguments = Unit {0}
FitArguments (entry ∷ pattern) [] = Unit {0}
FitArguments (None ∷ pattern) (argument ∷ arguments) = FitArguments pattern arguments
FitArguments (Some n ∷ pattern) (argument ∷ arguments) = IsNumber n argument × FitArguments pattern arguments

-- the event is a system call with this name, and its arguments fit the pattern
abbrev pub Fits : ℕ → List (Option ℤ) → Event → Type 0
Fits name pattern (Sys called arguments outcome) = (called ≡ name) × FitArguments pattern arguments
Fits name pattern (Pre site) = ⊥
Fits name pattern (Post site) = ⊥
