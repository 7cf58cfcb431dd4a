-- A file of a trace, or of interleaved traces, that is read in pieces.
use Rattle.std.proofs.Common.{rules, ◌≡◌, ℕ, ◌+◌, ◌<◌, ◌≤◌, List, [], ◌++◌, length, take, Option, None, Some, IfSome, refl, sym, ◌∙◌, ap, subst, append-nil, append_assoc, arith, length-append}
use Rattle.std.specs.Prelude.{All, slice_index_or}
use Rattle.std.proofs.lemmas.List.{take_all, length-take, get_or-append-add}
use Rattle.dm_base.specs.declared.event.Event.{Event}
use Rattle.dm_base.specs.declared.event.Event.TheVariants as events
use Rattle.dm_base.specs.declared.outcome.TraceEnd.{TraceEnd}
use Rattle.dm_io.specs.Front.{ReadsFront}
use Rattle.dm_io.specs.Store.{Files, ReadsPart, file_at}
use Rattle.dm_io.proofs.Parts.{ReadsFront-append}
use Rattle.trace_file.specs.declared.error.TraceError.{TraceError}
use Rattle.trace_file.specs.declared.error.TraceError.TheVariants as traces
use Rattle.trace_file.specs.declared.record.Record.{Record}
use Rattle.trace_file.specs.declared.trace_reader.TraceReader.{TraceReader}
use Rattle.trace_file.specs.declared.trace_place.TracePlace.{TracePlace}
use Rattle.trace_file.specs.declared.trace_place.TracePlace.TheVariants as places
use Rattle.trace_file.specs.declared.version.TracesVersion.{TracesVersion}
use Rattle.trace_file.specs.EventText.{IsWritten}
use Rattle.trace_file.specs.TraceReading.{StandsForTrace, ReachesTrace}
use Rattle.sys_table.specs.Table.{IsRecorded}
use Rattle.trace_file.specs.Trace.{longest, most, IsTraceWithin}
use Rattle.trace_file.specs.Traces.{AreTracesWithin}
use Rattle.tool_frame.specs.declared.stop.Stop.{Stop}
use Rattle.tool_frame.specs.declared.stop.Stop.TheVariants as stops
use Rattle.tool_files.specs.Reading.{IsTraceFollowed, IsAt, IsShut, IsReadWhole, IsStopOf, StopsFile, StopsReading, StopsText}
use Rattle.tool_monitors.specs.Told.{AreTracesTold}

-- a read that gives no byte is at the end of the file
pub whole_text : (told : Option Files) (name text into : List ℕ) (at : ℕ) → length text ≡ at → ReadsFront told name text → ReadsPart told name at 0 into → IfSome told (λ files. text ≡ file_at files name)
whole_text None name text into at is front part = tt
whole_text (Some files) name text into at is front part =
    let past : length (file_at files name) ≤ at = part.end.0 refl in
    front ∙ take_all (length text) (file_at files name) (omega (arith, past, is))

-- one byte too many was read
pub too_long : (told : Option Files) (name text : List ℕ) → length text ≡ 67108865 → ReadsFront told name text → IfSome told (λ files. longest < length (file_at files name))
too_long None name text is front = tt
too_long (Some files) name text is front = omega (arith, is, ap length front, length-take (length text) (file_at files name))

-- what holds of a text that is the file's
of_file : (P : List ℕ → Type 0) (told : Option Files) (name text : List ℕ) → IfSome told (λ files. text ≡ file_at files name) → P text → IfSome told (λ files. P (file_at files name))
of_file P None name text is here = tt
of_file P (Some files) name text is here = subst P is here

-- a panel that followed a text has followed the file
pub trace_followed : (told : Option Files) (name : List ℕ) (Followed : List ℕ → Type 0) (Judged : List Event → Type 0) → IsReadWhole told name Followed → ((w : List ℕ) → Followed w → (events : List Event) × (end : TraceEnd) × IsTraceWithin w events end × Judged events) → IsTraceFollowed told name Judged
trace_followed told name Followed Judged read found =
    let at = found read.text read.followed in
    record { events = at.0; is = of_file (λ w. (end : TraceEnd) × IsTraceWithin w at.0 end) told name read.text read.is (at.1, at.2); judged = at.3 }

-- what was told of interleaved traces that are the file's
pub traces_told : (told : Option Files) (name : List ℕ) (Followed : List ℕ → Type 0) (Tells : TracesVersion → List Record → Type 0) → IsReadWhole told name Followed → ((w : List ℕ) → Followed w → (version : TracesVersion) × (records : List Record) × AreTracesWithin w version records × Tells version records) → AreTracesTold told name Tells
traces_told told name Followed Tells read found =
    let at = found read.text read.followed in
    record { version = at.0; records = at.1; are = of_file (λ w. AreTracesWithin w at.0 at.1) told name read.text read.is at.2; told = at.3 }

-- why a text that is the file's is refused
pub text_refused : (Refusal : TraceError → List ℕ → Type 0) (told : Option Files) (name : List ℕ) (Followed : List ℕ → Type 0) (stop : Stop) (before after : ℕ) → IsReadWhole told name Followed → ((w : List ℕ) → Followed w → length w ≤ longest → StopsText Refusal stop w) → StopsFile Refusal stop told name before after
text_refused Refusal told name Followed stop before after read why = by stop (why read.text read.followed read.short)
  where
    by : (s : Stop) → StopsText Refusal s read.text → StopsFile Refusal s told name before after
    by stops.Usage why = why
    by (stops.Source line) why = why
    by (stops.Model line) why = why
    by (stops.Record line) why = (why.0, why.1, why.2, of_file (Refusal why.0) told name read.text read.is why.3)
    by stops.Read why = absurd why
    by stops.Write why = why
    by stops.OutOfMemory why = tt

-- why a file that was not read to its end is refused
pub reading_refused : (Refusal : TraceError → List ℕ → Type 0) (told : Option Files) (name : List ℕ) (stop : Stop) (before after : ℕ) → ((w : List ℕ) → longest < length w → Refusal traces.TooLong w) → StopsReading stop told name before after → StopsFile Refusal stop told name before after
reading_refused Refusal told name stops.Usage before after long why = why
reading_refused Refusal told name (stops.Source line) before after long why = why
reading_refused Refusal told name (stops.Model line) before after long why = why
reading_refused Refusal told name (stops.Record line) before after long why = (traces.TooLong, search rules, why.0, too_much told why.1)
  where
    too_much : (t : Option Files) → IfSome t (λ files. longest < length (file_at files name)) → IfSome t (λ files. Refusal traces.TooLong (file_at files name))
    too_much None is = tt
    too_much (Some files) is = long (file_at files name) is
reading_refused Refusal told name stops.Read before after long why = why
reading_refused Refusal told name stops.Write before after long why = why
reading_refused Refusal told name stops.OutOfMemory before after long why = tt

-- one piece more of the file
pub piece_more : (told here : Option Files) (name text into : List ℕ) (given count : ℕ) (Followed : List ℕ → Type 0)
    → here ≡ told → length text ≡ given → ReadsFront told name text → count ≤ length into → ReadsPart here name given count into
    → (length (text ++ take count into) ≤ longest → Followed (text ++ take count into))
    → (t : List ℕ) × (length t ≡ given + count) × ReadsFront told name t × (length t ≤ longest → Followed t)
piece_more told here name text into given count Followed same long front within part at = (
  text ++ take count into,
  omega (arith, long, within, length-append text (take count into), length-take count into),
  ReadsFront-append told name text into given count (sym long) within front (subst (λ (f : Option Files). ReadsPart f name given count into) same part),
  at,
)

-- no piece more of the file
pub no_piece_more : (told here : Option Files) (name text into : List ℕ) (given count : ℕ) (Followed : List ℕ → Type 0)
    → here ≡ told → given ≤ longest → count ≡ 0 → length text ≡ given → ReadsFront told name text → ReadsPart here name given count into
    → (length (text ++ take count into) ≤ longest → Followed (text ++ take count into))
    → IsReadWhole told name Followed
no_piece_more told here name text into given count Followed same few none long front part at =
    let part' : ReadsPart told name given 0 into = subst (λ (n : ℕ). ReadsPart told name given n into) none (subst (λ (f : Option Files). ReadsPart f name given count into) same part) in
    let nothing : text ++ take count into ≡ text = ap (λ (n : ℕ). text ++ take n into) none ∙ append-nil text in
    let short : length text ≤ longest = omega (arith, long, few) in
    let short' : length (text ++ take count into) ≤ longest = subst (λ (w : List ℕ). length w ≤ longest) (sym nothing) short in
    record {
      text = text;
      short = short;
      is = whole_text told name text into given long front part';
      followed = subst Followed nothing (at short');
    }

-- the number of the events, and that a file may hold them
standing : (reader : TraceReader) (text : List ℕ) (events : List Event) → StandsForTrace reader text events → (length events ≤ most) × All IsWritten events
standing reader text events stands = at_place reader.place stands.done stands.reached
  where
    at_place : (place : TracePlace) (done : List ℕ) → ReachesTrace place done events → (length events ≤ most) × All IsWritten events
    at_place places.Start done at = (subst (λ (t : List Event). length t ≤ most) (sym at.1) (omega arith), subst (λ (t : List Event). All IsWritten t) (sym at.1) (λ k d less. absurd (omega (arith, less))))
    at_place (places.Events n) done at = (at.few, at.written)
    at_place (places.End n end) done at = (at.few, at.trace.written)

pub standing_few : (reader : TraceReader) (text : List ℕ) (events : List Event) → StandsForTrace reader text events → length events ≤ most
standing_few reader text events stands = (standing reader text events stands).0

pub written_recorded : (event : Event) → IsWritten event → IsRecorded event
written_recorded (events.Sys name arguments outcome) written = written.1
written_recorded (events.Pre site) written = tt
written_recorded (events.Post site) written = tt

pub given_recorded : (reader : TraceReader) (text : List ℕ) (before given : List Event) → StandsForTrace reader text (before ++ given) → All IsRecorded given
given_recorded reader text before given stands = λ k d less.
    let all = (standing reader text (before ++ given) stands).1 in
    let here : slice_index_or (before ++ given) (length before + k) d ≡ slice_index_or given k d = get_or-append-add before given k d in
    written_recorded (slice_index_or given k d) (subst IsWritten here (all (length before + k) d (omega (arith, less, length-append before given))))

-- the next piece

pub at_open : (Refusal : TraceError → List ℕ → Type 0) (refused : Option TraceError) (Open : List ℕ → Type 0) (text : List ℕ) → refused ≡ None → IsAt Refusal refused Open text → Open text
at_open Refusal refused Open text is at = subst (λ (r : Option TraceError). IsAt Refusal r Open text) is at

pub at_shut : (Refusal : TraceError → List ℕ → Type 0) (refused : Option TraceError) (error : TraceError) (Open : List ℕ → Type 0) (text : List ℕ) → refused ≡ Some error → IsAt Refusal refused Open text → IsShut Refusal error text
at_shut Refusal refused error Open text is at = subst (λ (r : Option TraceError). IsAt Refusal r Open text) is at

-- the whole text shows its refusal
pub shut_here : (Refusal : TraceError → List ℕ → Type 0) (error : TraceError) (text : List ℕ) → IsShut Refusal error text → length text ≤ longest → Refusal error text
shut_here Refusal error text shut short =
    let nothing : text ++ [] ≡ text = append-nil text in
    subst (Refusal error) nothing (shut.shown [] (subst (λ (w : List ℕ). length w ≤ longest) (sym nothing) short))

shut_more : (Refusal : TraceError → List ℕ → Type 0) (error : TraceError) (text piece : List ℕ) → IsShut Refusal error text → IsShut Refusal error (text ++ piece)
shut_more Refusal error text piece shut =
    record {
      named = shut.named;
      shown = λ more short.
          let same : text ++ (piece ++ more) ≡ (text ++ piece) ++ more = sym (append_assoc text piece more) in
          subst (Refusal error) same (shut.shown (piece ++ more) (subst (λ (w : List ℕ). length w ≤ longest) (sym same) short));
    }

pub at_more : (Refusal : TraceError → List ℕ → Type 0) (refused : Option TraceError) (error : TraceError) (Open Later : List ℕ → Type 0) (text piece : List ℕ) → refused ≡ Some error → IsAt Refusal refused Open text → IsAt Refusal refused Later (text ++ piece)
at_more Refusal refused error Open Later text piece is at =
    subst (λ (r : Option TraceError). IsAt Refusal r Later (text ++ piece)) (sym is) (shut_more Refusal error text piece (at_shut Refusal refused error Open text is at))

-- nothing was read

pub front_nil : (told : Option Files) (name : List ℕ) → ReadsFront told name []
front_nil None name = tt
front_nil (Some files) name = refl

-- the stop of a text that was read whole and is refused
pub stops_text : (Refusal : TraceError → List ℕ → Type 0) (stop : Stop) (error : TraceError) (text : List ℕ) → IsStopOf stop error → Refusal error text → StopsText Refusal stop text
stops_text Refusal stops.Usage error text why is = why
stops_text Refusal (stops.Source line) error text why is = why
stops_text Refusal (stops.Model line) error text why is = why
stops_text Refusal (stops.Record line) error text why is = (error, why.0, why.1, is)
stops_text Refusal stops.Read error text why is = why
stops_text Refusal stops.Write error text why is = why
stops_text Refusal stops.OutOfMemory error text why is = tt
