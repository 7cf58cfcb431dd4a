-- How a trace is read line by line.
use Rattle.std.proofs.Common.{◌≡◌, ◌≢◌, ◌≤◌, ◌<◌, ℕ, false, nat_eq, ◌+◌, List, [], ◌∷◌, ◌++◌, length, Contains, decimal, refl, sym, ◌∙◌, ap, subst, append_assoc, arith, length-append, inl, inr}
use Rattle.std.specs.Prelude.{◌⊎◌, codes, flat_map}
use Rattle.std.proofs.lemmas.Bool.{true≢false}
use Rattle.std.proofs.lemmas.Fmt.{decimal_digit}
use Rattle.std.proofs.lemmas.List.{append-nil, append_cancel_left}
use Rattle.std.proofs.lemmas.List.Concat.{flat_map-append}
use Rattle.std.proofs.lemmas.List.Elements.{All-nil, All-cons, All-head, All-tail, All-push, Contains-append_left, Contains-append_right}
use Rattle.dm_base.specs.declared.event.Event.{Event}
use Rattle.dm_base.specs.declared.outcome.TraceEnd.{TraceEnd}
use Rattle.dm_base.specs.declared.outcome.TraceEnd.TheVariants.{Open}
use Rattle.line_text.specs.Files.{IsFirstLine, IsProperPrefix}
use Rattle.line_text.specs.Reading.{StandsFirst}
use Rattle.line_text.proofs.FilesLemmas.{nothing_read, one_more, GoesOn, short_line, ended_not_short}
use Rattle.trace_file.specs.declared.error.TraceError.{TraceError}
use Rattle.trace_file.specs.declared.error.TraceError.TheVariants.{OutOfMemory, BadLine, NoEnd, TooLong, Version}
use Rattle.trace_file.specs.declared.lines.TraceLine.{TraceLine}
use Rattle.trace_file.specs.declared.lines.TraceLine.TheVariants as trace
use Rattle.trace_file.specs.EventText.{event_text, end_text, IsWritten}
use Rattle.trace_file.specs.Lines.{event_line, end_line}
use Rattle.trace_file.specs.LineParts.{trace_line, IsTraceLine}
use Rattle.trace_file.specs.declared.trace_place.TracePlace.{TracePlace}
use Rattle.trace_file.specs.declared.trace_place.TracePlace.TheVariants as place
use Rattle.trace_file.specs.Pieces.{IsWhole, IsShown, Takes, Shows}
use Rattle.trace_file.specs.Reached.{IsReached}
use Rattle.trace_file.specs.Trace.{most, longest, trace_head, IsTrace, IsFormedTrace, IsTraceWithin, HasTooManyEvents, HasOtherTraceVersion, IsTraceRefusal}
use Rattle.trace_file.specs.TraceReading.{ReachesTrace, AreEventsAndEnd, BeginsTooManyEvents, AreEventsRead, IsEndRead}
use Rattle.trace_file.specs.Refusals.{HasRoom, IsLineRefusal, IsHeadRefusal}
use Rattle.trace_file.proofs.HeadLemmas.{no_other, other_version, bad_head}
use Rattle.trace_file.proofs.Parts.{no_feed_within}
use Rattle.trace_file.proofs.ReachedLemmas.{whole_first, whole_some, unfinished_first, bad_next, bad_shown, prefix_next, line_read, wrong_shown, wrong_ends}
use Rattle.line_text.proofs.FirstLines.{nil_front, line_alone}

-- the first line

pub trace_head-is : trace_head ≡ codes "dyckmon-trace " ++ decimal 1 ++ 10 ∷ []
trace_head-is = ap (λ (d : List ℕ). codes "dyckmon-trace " ++ d ++ 10 ∷ []) (sym (decimal_digit 1 (omega arith)))

formed_begins : (text : List ℕ) → IsFormedTrace text → (rest : List ℕ) × (text ≡ trace_head ++ rest)
formed_begins text formed =
    (flat_map event_line formed.0 ++ end_line formed.1, formed.2.is ∙ append_assoc trace_head (flat_map event_line formed.0) (end_line formed.1))

too_many_begins : (text : List ℕ) → HasTooManyEvents text → (rest : List ℕ) × (text ≡ trace_head ++ rest)
too_many_begins text has =
    (flat_map event_line has.events ++ has.rest, has.is ∙ append_assoc trace_head (flat_map event_line has.events) has.rest)

empty_end : AreEventsAndEnd (end_line Open)
empty_end = ([], Open, All-nil IsWritten, tt, refl)

formed_after_head : (rest : List ℕ) → AreEventsAndEnd rest → IsFormedTrace (trace_head ++ rest)
formed_after_head rest on =
    (on.0, on.1, record { written = on.2; right = on.3; is = ap (λ (t : List ℕ). trace_head ++ t) on.4 ∙ sym (append_assoc trace_head (flat_map event_line on.0) (end_line on.1)) })

begins : (text : List ℕ) → IsFormedTrace text ⊎ HasTooManyEvents text → (u : Unit {0}) × (rest : List ℕ) × (text ≡ trace_head ++ rest)
begins text (inl formed) = let at = formed_begins text formed in (tt, at.0, at.1)
begins text (inr has) = let at = too_many_begins text has in (tt, at.0, at.1)

-- an unfinished first line is a proper prefix
pub head_short : (tail : List ℕ) → IsHeadRefusal NoEnd tail → (HasTooManyEvents tail → ⊥) × IsProperPrefix IsFormedTrace tail
head_short tail cut = (
  (λ much.
      let begins = too_many_begins tail much in
      cut.unended (subst (λ (t : List ℕ). Contains t 10) (sym begins.1) (Contains-append_left trace_head begins.0 10 (15, omega arith, refl)))),
  (
    cut.rest ++ end_line Open,
    (λ none. cut.more (nil_front cut.rest (end_line Open) none)),
    subst IsFormedTrace (ap (λ (t : List ℕ). t ++ end_line Open) cut.goes_on ∙ append_assoc tail cut.rest (end_line Open)) (formed_after_head (end_line Open) empty_end),
  ),
)

-- the first line was read

head_whole : IsWhole trace_head
head_whole = record { front = codes "dyckmon-trace 1"; plain = no_feed_within (codes "dyckmon-trace 1") refl; ends = refl }

pub head_reached : IsReached IsFormedTrace HasTooManyEvents HasOtherTraceVersion AreEventsAndEnd (BeginsTooManyEvents 0) 1 trace_head
head_reached =
    record {
      read = one_more IsFormedTrace IsFormedTrace AreEventsAndEnd 0 [] trace_head head_whole.front (nothing_read IsFormedTrace (trace_head ++ end_line Open) (formed_after_head (end_line Open) empty_end)) head_whole.ends head_whole.plain
          (λ w formed. (formed.0, formed.1, formed.2.written, formed.2.right, append_cancel_left trace_head w _ (formed.2.is ∙ append_assoc trace_head (flat_map event_line formed.0) (end_line formed.1))))
          formed_after_head (end_line Open, empty_end);
      too_much = λ rest much. (much.events, much.rest, much.written, omega (arith, much.many), append_cancel_left trace_head rest _ (much.is ∙ append_assoc trace_head (flat_map event_line much.events) much.rest));
      own = λ rest. no_other trace_head (codes "dyckmon-trace ") rest (λ n. n ≡ 1) 1 (omega arith) refl trace_head-is head_whole;
    }

pub start_read : (line rest : List ℕ) → IsWhole line → line ≡ trace_head ++ rest → AreEventsRead 0 line []
start_read line rest whole is =
    let same : line ≡ trace_head = line_alone line trace_head rest line [] (subst (λ (t : List ℕ). IsFirstLine t trace_head rest) (sym is) (whole_first trace_head rest head_whole)) (subst (λ (t : List ℕ). IsFirstLine t line []) (append-nil line) (whole_first line [] whole)) in
    record {
      count = refl;
      few = omega arith;
      written = All-nil IsWritten;
      is = same ∙ sym (append-nil trace_head);
      reached = subst (IsReached IsFormedTrace HasTooManyEvents HasOtherTraceVersion AreEventsAndEnd (BeginsTooManyEvents 0) 1) (sym same) head_reached;
    }

-- the lines after the first

-- what may follow a line
abbrev pub FollowsLine : TraceLine → List ℕ → Type 0
FollowsLine (trace.Event event) rest = AreEventsAndEnd rest
FollowsLine (trace.End end) rest = rest ≡ []

-- what may follow a line where n events came before it and there are too many
abbrev pub FollowsLineTooMany : ℕ → TraceLine → List ℕ → Type 0
FollowsLineTooMany n (trace.Event event) rest = BeginsTooManyEvents (n + 1) rest
FollowsLineTooMany n (trace.End end) rest = ⊥

pub events_split : (text : List ℕ) → AreEventsAndEnd text → GoesOn IsTraceLine trace_line FollowsLine text
events_split text ([], end, written, right, is) = (trace.End end, [], right, refl, is ∙ sym (append-nil (end_line end)))
events_split text (event ∷ events, end, written, right, is) = (
  trace.Event event,
  flat_map event_line events ++ end_line end,
  All-head IsWritten event events written,
  (events, end, All-tail IsWritten event events written, right, refl),
  is ∙ append_assoc (event_line event) (flat_map event_line events) (end_line end),
)

pub events_joined : (text : List ℕ) → GoesOn IsTraceLine trace_line FollowsLine text → AreEventsAndEnd text
events_joined text (trace.Event event, rest, fits, on, is) = (
  event ∷ on.0,
  on.1,
  All-cons IsWritten event on.0 fits on.2,
  on.3,
  is ∙ ap (λ (t : List ℕ). event_line event ++ t) on.4 ∙ sym (append_assoc (event_line event) (flat_map event_line on.0) (end_line on.1)),
)
events_joined text (trace.End end, rest, fits, on, is) =
    ([], end, All-nil IsWritten, fits, is ∙ ap (λ (t : List ℕ). end_line end ++ t) on ∙ append-nil (end_line end))

pub too_many_split : (n : ℕ) (text : List ℕ) → n ≤ most → BeginsTooManyEvents n text → GoesOn IsTraceLine trace_line (FollowsLineTooMany n) text
too_many_split n text few ([], rest, written, many, is) = absurd (omega (arith, many, few))
too_many_split n text few (event ∷ events, rest, written, many, is) = (
  trace.Event event,
  flat_map event_line events ++ rest,
  All-head IsWritten event events written,
  (events, rest, All-tail IsWritten event events written, omega (arith, many), refl),
  is ∙ append_assoc (event_line event) (flat_map event_line events) rest,
)

pub may_follow : (v : TraceLine) → IsTraceLine v → (rest : List ℕ) × FollowsLine v rest
may_follow (trace.Event event) fits = (end_line Open, empty_end)
may_follow (trace.End end) fits = ([], refl)

-- an event's line was read
pub event_read : (n : ℕ) (lines line : List ℕ) (events : List Event) (event : Event) → AreEventsRead n lines events → IsWhole line → n < most → StandsFirst IsTraceLine trace_line line [] (trace.Event event) → AreEventsRead (n + 1) (lines ++ line) (events ++ event ∷ [])
event_read n lines line events event read whole few first =
    let same : line ≡ event_line event = first.stands ∙ append-nil (event_line event) in
    record {
      count = ap (λ (k : ℕ). k + 1) read.count ∙ sym (length-append events (event ∷ []));
      few = let len = length-append events (event ∷ []) in let count = read.count in omega (arith, len, count, few);
      written = All-push IsWritten events event read.written first.fits;
      is = ap (λ (t : List ℕ). t ++ line) read.is ∙ append_assoc trace_head (flat_map event_line events) line
          ∙ ap (λ (t : List ℕ). trace_head ++ t) (ap (λ (t : List ℕ). flat_map event_line events ++ t) (same ∙ sym (append-nil (event_line event))) ∙ sym (flat_map-append event_line events (event ∷ [])));
      reached = line_read IsFormedTrace HasTooManyEvents HasOtherTraceVersion AreEventsAndEnd (BeginsTooManyEvents n) (n + 1) lines read.reached IsTraceLine trace_line FollowsLine (FollowsLineTooMany n) events_split (λ t. too_many_split n t (omega (arith, few)))
          (BeginsTooManyEvents (n + 1)) line (trace.Event event) events_joined whole first (end_line Open, empty_end) (λ w much. much);
    }

-- the end line was read
pub end_read : (n : ℕ) (lines line : List ℕ) (events : List Event) (end : TraceEnd) → AreEventsRead n lines events → IsWhole line → StandsFirst IsTraceLine trace_line line [] (trace.End end) → IsEndRead n end (lines ++ line) events
end_read n lines line events end read whole first =
    let same : line ≡ end_line end = first.stands ∙ append-nil (end_line end) in
    let few : n ≤ most = let count = read.count in let le = read.few in omega (arith, count, le) in
    record {
      count = read.count;
      few = read.few;
      trace = record { written = read.written; right = first.fits; is = ap (λ (t : List ℕ). t ++ line) read.is ∙ ap (λ (t : List ℕ). trace_head ++ flat_map event_line events ++ t) same };
      reached = subst (λ (k : ℕ). IsReached IsFormedTrace HasTooManyEvents HasOtherTraceVersion (λ rest. rest ≡ []) (λ rest. ⊥) k (lines ++ line)) (omega arith)
          (line_read IsFormedTrace HasTooManyEvents HasOtherTraceVersion AreEventsAndEnd (BeginsTooManyEvents n) (n + 1) lines read.reached IsTraceLine trace_line FollowsLine (FollowsLineTooMany n) events_split (λ t. too_many_split n t few) (λ rest. ⊥) line (trace.End end) events_joined whole first ([], refl) (λ w much. much));
    }

-- why a line is refused

-- one event too many
pub too_many_shown : (n : ℕ) (lines line : List ℕ) (events : List Event) (event : Event) → AreEventsRead n lines events → most ≤ n → StandsFirst IsTraceLine trace_line line [] (trace.Event event) → IsShown IsTraceRefusal TooLong (lines ++ line)
too_many_shown n lines line events event read much first more short =
    let same : line ≡ event_line event = first.stands ∙ append-nil (event_line event) in
    let whole : lines ++ line ≡ trace_head ++ flat_map event_line (events ++ event ∷ []) =
    ap (λ (t : List ℕ). t ++ line) read.is ∙ append_assoc trace_head (flat_map event_line events) line
    ∙ ap (λ (t : List ℕ). trace_head ++ t) (ap (λ (t : List ℕ). flat_map event_line events ++ t) (same ∙ sym (append-nil (event_line event))) ∙ sym (flat_map-append event_line events (event ∷ []))) in
    inr (record {
      events = events ++ event ∷ [];
      rest = more;
      many = let len = length-append events (event ∷ []) in let count = read.count in let le = read.few in omega (arith, len, count, le, much);
      written = All-push IsWritten events event read.written first.fits;
      is = ap (λ (t : List ℕ). t ++ more) whole;
    })

-- the first line is refused
head_refused : (error : TraceError) (text line rest : List ℕ) → length text ≤ longest → IsFirstLine text line rest → IsHeadRefusal error line → (IsHeadRefusal NoEnd line → IsTraceRefusal NoEnd text) → IsTraceRefusal error text
head_refused OutOfMemory text line rest short first refused cut = tt
head_refused Version text line rest short first refused cut = (short, other_version (codes "dyckmon-trace ") text line rest (λ n. n ≡ 1) first refused)
head_refused (BadLine k) text line rest short first refused cut =
    bad_head (λ (u : Unit {0}). trace_head) (codes "dyckmon-trace ") (λ n. n ≡ 1) IsFormedTrace HasTooManyEvents (trace_head ++ end_line Open) (formed_after_head (end_line Open) empty_end) begins k text line rest short first (refused.0, (λ u. refused.1), refused.2)
head_refused NoEnd text line rest short first refused cut = cut refused
head_refused error text line rest short first refused cut = absurd refused

head_shown : (error : TraceError) (line : List ℕ) → IsWhole line → IsHeadRefusal error line → IsShown IsTraceRefusal error line
head_shown error line whole refused more short =
    head_refused error (line ++ more) line more short (whole_first line more whole) refused (λ cut. absurd (ended_not_short {V = Unit {0}} (λ _. Unit {0}) (λ _. trace_head) line whole.front whole.ends cut))

-- a line after the first is refused
pub line_shown : (n : ℕ) (error : TraceError) (lines line : List ℕ) (events : List Event) → AreEventsRead n lines events → IsWhole line → IsLineRefusal n error line → IsShown IsTraceRefusal error (lines ++ line)
line_shown n OutOfMemory lines line events read whole refused = λ more short. tt
line_shown n (BadLine k) lines line events read whole refused =
    let few : n ≤ most = let count = read.count in let le = read.few in omega (arith, count, le) in
    wrong_shown IsFormedTrace HasTooManyEvents HasOtherTraceVersion AreEventsAndEnd (BeginsTooManyEvents n) (n + 1) lines read.reached IsTraceLine trace_line FollowsLine (FollowsLineTooMany n) events_split (λ t. too_many_split n t few) k line (omega (arith, refused.0)) whole refused.1
line_shown n NoEnd lines line events read whole cut = λ more short. absurd (ended_not_short IsTraceLine trace_line line whole.front whole.ends cut)
line_shown n TooLong lines line events read whole refused = too_many_shown n lines line events refused.0 read refused.1 refused.2
line_shown n error lines line events read whole refused = λ more short. absurd refused

-- the end of the text

ends_feed : (v : TraceLine) (rest : List ℕ) → Contains (trace_line v ++ rest) 10
ends_feed (trace.Event event) rest = Contains-append_left (event_line event) rest 10 (Contains-append_right (event_text event) (10 ∷ []) 10 (0, omega arith, refl))
ends_feed (trace.End end) rest = Contains-append_left (end_line end) rest 10 (Contains-append_right (end_text end) (10 ∷ []) 10 (0, omega arith, refl))

-- no line stands in a text without a line feed
pub none_stands : (tail rest : List ℕ) (v : TraceLine) → (Contains tail 10 → ⊥) → tail ≡ trace_line v ++ rest → ⊥
none_stands tail rest v plain is = plain (subst (λ (t : List ℕ). Contains t 10) (sym is) (ends_feed v rest))

pub no_head : (tail rest : List ℕ) → (Contains tail 10 → ⊥) → tail ≡ trace_head ++ rest → ⊥
no_head tail rest plain is = plain (subst (λ (t : List ℕ). Contains t 10) (sym is) (Contains-append_left trace_head rest 10 (15, omega arith, refl)))

-- the text ends within its first line
head_ends : (error : TraceError) (tail : List ℕ) → (Contains tail 10 → ⊥) → length tail ≤ longest → IsHeadRefusal error tail → IsTraceRefusal error tail
head_ends error tail plain short refused = head_refused error tail tail [] short (unfinished_first tail plain) refused (λ cut. let prefix = head_short tail cut in (short, prefix.0, prefix.1))

-- the text ends within a line after the first
pub line_ends : (n : ℕ) (error : TraceError) (lines tail : List ℕ) (events : List Event) → AreEventsRead n lines events → (Contains tail 10 → ⊥) → length (lines ++ tail) ≤ longest → IsLineRefusal n error tail → IsTraceRefusal error (lines ++ tail)
line_ends n OutOfMemory lines tail events read plain short refused = tt
line_ends n (BadLine k) lines tail events read plain short refused =
    let few : n ≤ most = let count = read.count in let le = read.few in omega (arith, count, le) in
    wrong_ends IsFormedTrace HasTooManyEvents HasOtherTraceVersion AreEventsAndEnd (BeginsTooManyEvents n) (n + 1) lines read.reached IsTraceLine trace_line FollowsLine (FollowsLineTooMany n) events_split (λ t. too_many_split n t few) k tail (omega (arith, refused.0)) short plain refused.1
line_ends n NoEnd lines tail events read plain short cut =
    let few : n ≤ most = let count = read.count in let le = read.few in omega (arith, count, le) in
    let more = short_line IsTraceLine trace_line FollowsLine tail may_follow cut in
    let prefix = prefix_next IsFormedTrace HasTooManyEvents HasOtherTraceVersion AreEventsAndEnd (BeginsTooManyEvents n) (n + 1) lines read.reached tail (more.0, more.1, events_joined (tail ++ more.0) more.2)
    (λ much. let on = too_many_split n tail few much in none_stands tail on.1 on.0 plain on.4) in
    (short, prefix.0, prefix.1)
line_ends n TooLong lines tail events read plain short refused = absurd (none_stands tail [] (trace.Event refused.0) plain refused.2.stands)
line_ends n error lines tail events read plain short refused = absurd refused

-- the text ends with its end line
pub end_within : (n : ℕ) (end : TraceEnd) (lines tail : List ℕ) (events : List Event) → IsEndRead n end lines events → length (lines ++ tail) ≤ longest → tail ≡ [] → IsTraceWithin (lines ++ tail) events end
end_within n end lines tail events read short none =
    let same : lines ≡ lines ++ tail = sym (append-nil lines) ∙ ap (λ (t : List ℕ). lines ++ t) (sym none) in
    record { trace = subst (λ (t : List ℕ). IsTrace t events end) same read.trace; few = read.few; short = short }

-- from one place to the next

pub start_shows : (at : TracePlace) (error : TraceError) (line : List ℕ) → at ≡ place.Start → IsWhole line → IsHeadRefusal error line → Shows ReachesTrace IsTraceRefusal at error line
start_shows at error line is whole refused lines events reached =
    let start = subst (λ (p : TracePlace). ReachesTrace p lines events) is reached in
    subst (λ (t : List ℕ). IsShown IsTraceRefusal error (t ++ line)) (sym start.0) (head_shown error line whole refused)

pub start_takes : (at : TracePlace) (line rest : List ℕ) → at ≡ place.Start → IsWhole line → line ≡ trace_head ++ rest → Takes ReachesTrace at line [] (place.Events 0)
start_takes at line rest is whole head lines events reached =
    let start = subst (λ (p : TracePlace). ReachesTrace p lines events) is reached in
    subst (λ (t : List ℕ). AreEventsRead 0 (t ++ line) (events ++ [])) (sym start.0)
    (subst (λ (t : List Event). AreEventsRead 0 line (t ++ [])) (sym start.1) (start_read line rest whole head))

pub line_shows : (n : ℕ) (at : TracePlace) (error : TraceError) (line : List ℕ) → at ≡ place.Events n → IsWhole line → IsLineRefusal n error line → Shows ReachesTrace IsTraceRefusal at error line
line_shows n at error line is whole refused lines events reached =
    line_shown n error lines line events (subst (λ (p : TracePlace). ReachesTrace p lines events) is reached) whole refused

pub event_takes : (n : ℕ) (at : TracePlace) (line : List ℕ) (found : TraceLine) (event : Event) → at ≡ place.Events n → IsWhole line → HasRoom n found → StandsFirst IsTraceLine trace_line line [] found → found ≡ trace.Event event → Takes ReachesTrace at line (event ∷ []) (place.Events (n + 1))
event_takes n at line found event is whole room first one lines events reached =
    event_read n lines line events event (subst (λ (p : TracePlace). ReachesTrace p lines events) is reached) whole
    (subst (HasRoom n) one room) (subst (λ (v : TraceLine). StandsFirst IsTraceLine trace_line line [] v) one first)

pub end_takes : (n : ℕ) (at : TracePlace) (line : List ℕ) (found : TraceLine) (end : TraceEnd) → at ≡ place.Events n → IsWhole line → StandsFirst IsTraceLine trace_line line [] found → found ≡ trace.End end → Takes ReachesTrace at line [] (place.End n end)
end_takes n at line found end is whole first one lines events reached =
    subst (λ (t : List Event). IsEndRead n end (lines ++ line) t) (sym (append-nil events))
    (end_read n lines line events end (subst (λ (p : TracePlace). ReachesTrace p lines events) is reached) whole (subst (λ (v : TraceLine). StandsFirst IsTraceLine trace_line line [] v) one first))

pub after_end_shows : (n k : ℕ) (end : TraceEnd) (at : TracePlace) (line : List ℕ) → at ≡ place.End n end → IsWhole line → k ≡ n + 3 → Shows ReachesTrace IsTraceRefusal at (BadLine k) line
after_end_shows n k end at line is whole number lines events reached =
    let read = subst (λ (p : TracePlace). ReachesTrace p lines events) is reached in
    bad_shown IsFormedTrace HasTooManyEvents HasOtherTraceVersion (λ rest. rest ≡ []) (λ rest. ⊥) (n + 2) lines read.reached k line (omega (arith, number)) whole (λ w none. whole_some line w whole none) (λ w much. much)

-- why the text with this tail is refused, at this place
abbrev pub EndsRefused : TracePlace → TraceError → List ℕ → Type 0
EndsRefused at error tail = (lines : List ℕ) (events : List Event) → ReachesTrace at lines events → length (lines ++ tail) ≤ longest → IsTraceRefusal error (lines ++ tail)

pub start_refused : (at : TracePlace) (error : TraceError) (tail : List ℕ) → at ≡ place.Start → (Contains tail 10 → ⊥) → IsHeadRefusal error tail → EndsRefused at error tail
start_refused at error tail is plain refused lines events reached short =
    let start = subst (λ (p : TracePlace). ReachesTrace p lines events) is reached in
    let short' : length tail ≤ longest = subst (λ (t : List ℕ). length (t ++ tail) ≤ longest) start.0 short in
    subst (λ (t : List ℕ). IsTraceRefusal error (t ++ tail)) (sym start.0) (head_ends error tail plain short' refused)

pub line_refused : (n : ℕ) (at : TracePlace) (error : TraceError) (tail : List ℕ) → at ≡ place.Events n → (Contains tail 10 → ⊥) → IsLineRefusal n error tail → EndsRefused at error tail
line_refused n at error tail is plain refused lines events reached short =
    line_ends n error lines tail events (subst (λ (p : TracePlace). ReachesTrace p lines events) is reached) plain short refused

pub end_refused : (n k : ℕ) (end : TraceEnd) (at : TracePlace) (tail : List ℕ) → at ≡ place.End n end → (Contains tail 10 → ⊥) → tail ≢ [] → k ≡ n + 3 → EndsRefused at (BadLine k) tail
end_refused n k end at tail is plain some number lines events reached short =
    let read = subst (λ (p : TracePlace). ReachesTrace p lines events) is reached in
    bad_next IsFormedTrace HasTooManyEvents HasOtherTraceVersion (λ rest. rest ≡ []) (λ rest. ⊥) (n + 2) lines read.reached k tail tail [] (omega (arith, number)) short (unfinished_first tail plain) (λ w none. some (nil_front tail w none)) (λ w much. much)

pub length_some : (text : List ℕ) → nat_eq (length text) 0 ≡ false → text ≢ []
length_some text none is = true≢false (sym (ap (λ (t : List ℕ). nat_eq (length t) 0) is) ∙ none)
