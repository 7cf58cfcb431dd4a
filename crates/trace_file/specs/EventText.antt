-- The texts of events and outcomes.
use Rattle.std.specs.Prelude.{ℕ, ◌<◌, ◌≤◌, ◌^◌, List, [], ◌∷◌, ◌++◌, All, FitsSigned, flat_map, codes, decimal}
use Rattle.std.specs.Fmt.{signed_decimal}
use Rattle.std.specs.Int.{w32}
use Rattle.hex.specs.Hex.{IsBytes}
use Rattle.dm_base.specs.declared.event.Arg.{Arg}
use Rattle.dm_base.specs.declared.event.Arg.TheVariants as args
use Rattle.dm_base.specs.declared.event.Event.{Event}
use Rattle.dm_base.specs.declared.event.Event.TheVariants.{Sys, Pre, Post}
use Rattle.dm_base.specs.declared.outcome.Outcome.{Outcome}
use Rattle.dm_base.specs.declared.outcome.Outcome.TheVariants.{Exit, Undefined, Turns, Results, BadResult}
use Rattle.dm_base.specs.declared.outcome.TraceEnd.{TraceEnd}
use Rattle.dm_base.specs.declared.outcome.TraceEnd.TheVariants.{Open, Ended}
use Rattle.line_text.specs.Words.{bytes_text}
use Rattle.sys_table.specs.Table.{name_of, IsRecorded}

abbrev pub argument_text : Arg → List ℕ
argument_text (args.Int n) = signed_decimal n
argument_text (args.Bytes bytes) = bytes_text bytes

-- an argument and the space after it
abbrev pub argument_word : Arg → List ℕ
argument_word argument = argument_text argument ++ 32 ∷ []

-- `S NAME args = RESULT`, `B n` for the null call before a call, `E n` for the one after it
abbrev pub event_text : Event → List ℕ
event_text (Sys name arguments outcome) = codes "S " ++ name_of name ++ codes " " ++ flat_map argument_word arguments ++ codes "= " ++ signed_decimal outcome
event_text (Pre site) = codes "B " ++ decimal site
event_text (Post site) = codes "E " ++ decimal site

-- what follows `end ` in a trace that ended so
abbrev pub outcome_text : Outcome → List ℕ
outcome_text (Exit n) = codes "exit " ++ signed_decimal n
outcome_text (Undefined kind) = codes "undefined U" ++ decimal kind
outcome_text Turns = codes "turns"
outcome_text Results = codes "results"
outcome_text (BadResult n) = codes "badresult " ++ decimal n

abbrev pub end_text : TraceEnd → List ℕ
end_text Open = codes "end open"
end_text (Ended outcome) = codes "end " ++ outcome_text outcome

-- the bytes of an argument are bytes
abbrev pub HasBytes : Arg → Type 0
HasBytes (args.Int n) = Unit {0}
HasBytes (args.Bytes bytes) = IsBytes bytes

-- an event that a file may hold: it is recorded, and its numbers are those that an `Event` may hold
abbrev pub IsWritten : Event → Type 0
IsWritten (Sys name arguments outcome) = (name < 24) × IsRecorded (Sys name arguments outcome) × All HasBytes arguments
IsWritten (Pre site) = site < 2 ^ 32
IsWritten (Post site) = site < 2 ^ 32

-- the number of a record that answers no call is at least 1
abbrev pub IsCountedOutcome : Outcome → Type 0
IsCountedOutcome (Exit n) = Unit {0}
IsCountedOutcome (Undefined kind) = Unit {0}
IsCountedOutcome Turns = Unit {0}
IsCountedOutcome Results = Unit {0}
IsCountedOutcome (BadResult n) = 1 ≤ n

abbrev pub IsCountedEnd : TraceEnd → Type 0
IsCountedEnd Open = Unit {0}
IsCountedEnd (Ended outcome) = IsCountedOutcome outcome

-- an outcome that a file may hold: that number is at least 1, and its numbers are those that an `Outcome` may hold
abbrev pub IsRightOutcome : Outcome → Type 0
IsRightOutcome (Exit n) = FitsSigned w32 n
IsRightOutcome (Undefined kind) = (1 ≤ kind) × (kind ≤ 12)
IsRightOutcome Turns = Unit {0}
IsRightOutcome Results = Unit {0}
IsRightOutcome (BadResult n) = (1 ≤ n) × (n < 2 ^ 64)

abbrev pub IsRightEnd : TraceEnd → Type 0
IsRightEnd Open = Unit {0}
IsRightEnd (Ended outcome) = IsRightOutcome outcome
