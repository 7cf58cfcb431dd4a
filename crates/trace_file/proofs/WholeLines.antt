-- The lines of traces and of interleaved traces, and that a line is read to its end.
use Rattle.std.proofs.Common.{◌≡◌, ◌≢◌, ℕ, ◌<◌, ◌^◌, List, [], ◌∷◌, ◌++◌, length, get_or, decimal, refl, sym, append_assoc, arith}
use Rattle.std.specs.Prelude.{codes}
use Rattle.std.specs.Str.Parse.{AllDigits}
use Rattle.std.proofs.lemmas.Fmt.{digits_decimal, decimal_nonempty}
use Rattle.std.proofs.lemmas.Str.Parse.{digit_from_value}
use Rattle.dm_base.specs.declared.event.Event.{Event}
use Rattle.dm_base.specs.declared.outcome.TraceEnd.{TraceEnd}
use Rattle.dm_base.specs.declared.outcome.TraceEnd.TheVariants.{Open, Ended}
use Rattle.line_text.specs.Reading.{Agree, IsCutShort}
use Rattle.dm_base.proofs.Decimals.{own}
use Rattle.line_text.proofs.Splits.{IsCase}
use Rattle.trace_file.specs.declared.lines.TraceLine.{TraceLine}
use Rattle.trace_file.specs.declared.lines.TraceLine.TheVariants as trace
use Rattle.trace_file.specs.declared.lines.TracesLine.{TracesLine}
use Rattle.trace_file.specs.declared.lines.TracesLine.TheVariants as traces
use Rattle.trace_file.specs.declared.record.Record.{Record}
use Rattle.trace_file.specs.EventText.{event_text, end_text, IsWritten, IsRightEnd}
use Rattle.trace_file.specs.Lines.{event_line, end_line, record_line, IsWrittenRecord}
use Rattle.trace_file.specs.LineParts.{trace_line, IsTraceLine, traces_line, IsTracesLine}
use Rattle.trace_file.proofs.EventLemmas.{event_letter}
use Rattle.trace_file.proofs.Parts.{first_agrees, cut_at_start}

-- lines of a trace

end_begins : (end : TraceEnd) (old : List ℕ) → Agree (end_line end) old → 0 < length old → get_or old 0 0 ≡ 101
end_begins Open old agree some = first_agrees 101 _ old agree some
end_begins (Ended outcome) old agree some = first_agrees 101 _ old agree some

pub end_case : (old : List ℕ) → 0 < length old → get_or old 0 0 ≡ 101 → IsCase IsTraceLine trace_line IsRightEnd end_line trace.End old
end_case old some first = record { made = λ end fits. (fits, refl); only = only } where
  only : (line : TraceLine) → IsTraceLine line → Agree (trace_line line) old → (end : TraceEnd) × IsRightEnd end × (line ≡ trace.End end)
  only (trace.Event e) fits agree = absurd (event_letter e old agree some first)
  only (trace.End end) fits agree = (end, fits, refl)

pub event_case : (old : List ℕ) → 0 < length old → get_or old 0 0 ≢ 101 → IsCase IsTraceLine trace_line IsWritten event_line trace.Event old
event_case old some other = record { made = λ e fits. (fits, refl); only = only } where
  only : (line : TraceLine) → IsTraceLine line → Agree (trace_line line) old → (e : Event) × IsWritten e × (line ≡ trace.Event e)
  only (trace.Event e) fits agree = (e, fits, refl)
  only (trace.End end) fits agree = absurd (other (end_begins end old agree some))

pub no_trace_line_left : (old : List ℕ) → length old < 1 → IsCutShort IsTraceLine trace_line old
no_trace_line_left old none = cut_at_start IsTraceLine trace_line old (omega arith) (trace.End Open) tt (λ is. cc)

-- lines of interleaved traces

digits_begin : (digits more old : List ℕ) → AllDigits 10 digits → 0 < length digits → Agree (digits ++ more) old → 0 < length old → get_or old 0 0 ≢ 101
digits_begin [] more old all long agree some is = omega arith
digits_begin (d ∷ digits) more old all long agree some is =
    let first : get_or old 0 0 ≡ d = first_agrees d (digits ++ more) old agree some in
    let within = digit_from_value d all.0 in
    omega (arith, within.1)

record_begins : (r : Record) (old : List ℕ) → IsWrittenRecord r → Agree (record_line r) old → 0 < length old → get_or old 0 0 ≢ 101
record_begins r old fits agree some =
    let small : r.pid < 2 ^ 64 = omega (arith, fits.0) in
    digits_begin (decimal r.pid) (32 ∷ event_line r.event) old (digits_decimal own r.pid small) (decimal_nonempty r.pid small) agree some

pub last_case : (old : List ℕ) → 0 < length old → get_or old 0 0 ≡ 101 → IsCase IsTracesLine traces_line (λ (u : Unit {0}). Unit {0}) (λ u. codes "end\n") (λ u. traces.End) old
last_case old some first = record { made = λ u one. (tt, refl); only = only } where
  only : (line : TracesLine) → IsTracesLine line → Agree (traces_line line) old → Unit {0} × Unit {0} × (line ≡ traces.End)
  only (traces.Record r) fits agree = absurd (record_begins r old fits agree some first)
  only traces.End fits agree = (tt, tt, refl)

pub record_case : (old : List ℕ) → 0 < length old → get_or old 0 0 ≢ 101 → IsCase IsTracesLine traces_line IsWrittenRecord record_line traces.Record old
record_case old some other = record { made = λ r fits. (fits, refl); only = only } where
  only : (line : TracesLine) → IsTracesLine line → Agree (traces_line line) old → (r : Record) × IsWrittenRecord r × (line ≡ traces.Record r)
  only (traces.Record r) fits agree = (r, fits, refl)
  only traces.End fits agree = absurd (other (first_agrees 101 _ old agree some))

pub no_traces_line_left : (old : List ℕ) → length old < 1 → IsCutShort IsTracesLine traces_line old
no_traces_line_left old none = cut_at_start IsTracesLine traces_line old (omega arith) traces.End tt (λ is. cc)

-- whole lines

pub trace_line_ends : (line : TraceLine) → (front : List ℕ) × (trace_line line ≡ front ++ 10 ∷ [])
trace_line_ends (trace.Event e) = (event_text e, refl)
trace_line_ends (trace.End end) = (end_text end, refl)

pub traces_line_ends : (line : TracesLine) → (front : List ℕ) × (traces_line line ≡ front ++ 10 ∷ [])
traces_line_ends (traces.Record r) = (decimal r.pid ++ 32 ∷ event_text r.event, sym (append_assoc (decimal r.pid) (32 ∷ event_text r.event) (10 ∷ [])))
traces_line_ends traces.End = (codes "end", refl)
