-- For private contracts and proofs alone: the lines of traces as values, and their parts, for readers that take a line part by part.
use Rattle.std.specs.Prelude.{◌≡◌, ℕ, ℤ, Bool, true, not, ◌&&◌, nat_eq, List, [], ◌∷◌, ◌++◌, drop, flat_map, codes}
use Rattle.std.specs.List.{AllZip}
use Rattle.dm_base.specs.declared.event.Arg.{Arg}
use Rattle.dm_base.specs.declared.event.Event.{Event}
use Rattle.dm_base.specs.declared.event.Event.TheVariants.{Sys, Pre, Post}
use Rattle.dm_base.specs.declared.outcome.TraceEnd.{TraceEnd}
use Rattle.dm_base.specs.declared.outcome.TraceEnd.TheVariants.{Open, Ended}
use Rattle.line_text.specs.Words.{integer_word}
use Rattle.trace_file.specs.declared.lines.TraceLine.{TraceLine}
use Rattle.trace_file.specs.declared.lines.TraceLine.TheVariants as trace
use Rattle.trace_file.specs.declared.lines.TracesLine.{TracesLine}
use Rattle.trace_file.specs.declared.lines.TracesLine.TheVariants as traces
use Rattle.sys_table.specs.declared.kinds.ArgKind.{ArgKind}
use Rattle.sys_table.specs.Table.{FitsArgument}
use Rattle.trace_file.specs.EventText.{argument_word, outcome_text, HasBytes, IsWritten, IsRightEnd}
use Rattle.trace_file.specs.Lines.{event_line, end_line, record_line, IsWrittenRecord}

-- whether the word has no line feed
abbrev pub has_no_feed : List ℕ → Bool
has_no_feed [] = true
has_no_feed (b ∷ word) = not (nat_eq b 10) && has_no_feed word

-- a system call that a file may hold
abbrev pub IsWrittenCall : Event → Type 0
IsWrittenCall (Sys name arguments outcome) = IsWritten (Sys name arguments outcome)
IsWrittenCall (Pre site) = ⊥
IsWrittenCall (Post site) = ⊥

-- an argument of this kind that a file may hold
abbrev pub IsWrittenArgument : ArgKind → Arg → Type 0
IsWrittenArgument kind argument = FitsArgument kind argument × HasBytes argument

-- the first arguments are these, and the others are of the kinds
abbrev pub GoOn : List Arg → List ArgKind → List Arg → Type 0
GoOn first kinds arguments = (others : List Arg) × (arguments ≡ first ++ others) × AllZip IsWrittenArgument kinds others

-- the arguments after the first so many, each with its space
abbrev pub words_after : ℕ → List Arg → List ℕ
words_after count arguments = flat_map argument_word (drop count arguments)

-- `= `, the result and the line feed
abbrev pub result_line : ℤ → List ℕ
result_line outcome = codes "= " ++ integer_word 10 outcome

-- what follows `end ` in the line of an end
abbrev pub ending_line : TraceEnd → List ℕ
ending_line Open = codes "open\n"
ending_line (Ended outcome) = outcome_text outcome ++ 10 ∷ []

-- a line of a trace after the first
abbrev pub trace_line : TraceLine → List ℕ
trace_line (trace.Event event) = event_line event
trace_line (trace.End end) = end_line end

abbrev pub IsTraceLine : TraceLine → Type 0
IsTraceLine (trace.Event event) = IsWritten event
IsTraceLine (trace.End end) = IsRightEnd end

-- a line of interleaved traces after the first
abbrev pub traces_line : TracesLine → List ℕ
traces_line (traces.Record r) = record_line r
traces_line traces.End = codes "end\n"

abbrev pub IsTracesLine : TracesLine → Type 0
IsTracesLine (traces.Record r) = IsWrittenRecord r
IsTracesLine traces.End = Unit {0}
