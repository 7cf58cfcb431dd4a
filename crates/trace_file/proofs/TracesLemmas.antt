-- How interleaved traces are read line by line.
use Rattle.std.proofs.Common.{◌≡◌, ◌≢◌, ◌≤◌, ◌<◌, ◌^◌, ℕ, nat_eq, ◌+◌, List, [], ◌∷◌, ◌++◌, length, get_or, Contains, decimal, refl, sym, ◌∙◌, ap, subst, append_assoc, arith, length-append, inl, inr}
use Rattle.std.specs.Prelude.{◌⊎◌, codes, flat_map, Option, None, Some, Result, Ok, Err, IfOk, IfErr}
use Rattle.std.proofs.lemmas.Bool.{true≢false, cases_lt}
use Rattle.std.proofs.lemmas.Fmt.{decimal_digit}
use Rattle.std.proofs.lemmas.List.{append-nil, append_cancel_left}
use Rattle.std.proofs.lemmas.List.Concat.{flat_map-append}
use Rattle.std.proofs.lemmas.List.Elements.{All-nil, All-cons, All-head, All-tail, All-push, Contains-append_left, Contains-append_right}
use Rattle.line_text.specs.Files.{IsFirstLine, IsProperPrefix}
use Rattle.line_text.specs.Reading.{StandsFirst}
use Rattle.line_text.proofs.FilesLemmas.{nothing_read, one_more, GoesOn, short_line, ended_not_short}
use Rattle.line_text.proofs.Splits.{prefixes_agree}
use Rattle.std.specs.Ordering.{nat_cmp}
use Rattle.std.specs.FinSet.{len-empty}
use Rattle.trace_file.specs.declared.error.TraceError.{TraceError}
use Rattle.trace_file.specs.declared.error.TraceError.TheVariants.{OutOfMemory, BadLine, NoEnd, TooLong, TooManyProcesses, Version}
use Rattle.trace_file.specs.declared.lines.TracesLine.{TracesLine}
use Rattle.trace_file.specs.declared.lines.TracesLine.TheVariants as traces
use Rattle.trace_file.specs.declared.record.Record.{Record}
use Rattle.trace_file.specs.declared.version.TracesVersion.{TracesVersion}
use Rattle.trace_file.specs.declared.version.TracesVersion.TheVariants.{One, Two}
use Rattle.trace_file.specs.EventText.{event_text}
use Rattle.trace_file.specs.declared.traces_place.TracesStage.{TracesStage}
use Rattle.trace_file.specs.declared.traces_place.TracesStage.TheVariants as stage
use Rattle.trace_file.specs.Known.{made_known, known_count}
use Rattle.trace_file.specs.Lines.{event_line, record_line, IsWrittenRecord}
use Rattle.trace_file.specs.LineParts.{traces_line, IsTracesLine}
use Rattle.trace_file.specs.declared.traces_place.TracesPlace.{TracesPlace}
use Rattle.trace_file.specs.Pieces.{IsWhole, IsShown}
use Rattle.trace_file.specs.Held.{Held}
use Rattle.trace_file.specs.Processes.{AreKnown}
use Rattle.trace_file.specs.Reached.{IsReached}
use Rattle.trace_file.specs.Trace.{most, longest}
use Rattle.trace_file.specs.Traces.{most_processes, traces_head, records_text, AreTraces, AreTracesWithin, AreFormedTraces, PassesALimit, HasTooMuch, HasOtherTracesVersion, IsTracesRefusal, AreTracesOf, BeginsWith}
use Rattle.trace_file.specs.TracesReading.{ReachesStage, ReachesTraces, stage_version, traces_version, StandForTraces, AreRecordsAndEnd, PassesHere, BeginsTooMuch, AreRecordsRead, AreTracesRead}
use Rattle.trace_file.specs.Refusals.{EndsIn, HasRecordRoom, IsTracesHeadRefusal, IsRecordRefusal, IsRefusedAt}
use Rattle.trace_file.proofs.HeadLemmas.{no_other, other_version, bad_head}
use Rattle.trace_file.proofs.Parts.{no_feed_within}
use Rattle.trace_file.proofs.ProcessesLemmas.{known_length, made_push}
use Rattle.trace_file.proofs.ReachedLemmas.{whole_first, whole_some, unfinished_first, bad_next, bad_shown, prefix_next, line_read, wrong_shown, wrong_ends}
use Rattle.line_text.proofs.FirstLines.{nil_front, line_alone}

-- the first line

abbrev pub number_of : TracesVersion → ℕ
number_of One = 1
number_of Two = 2

pub traces_head-is : (version : TracesVersion) → traces_head version ≡ codes "dyckmon-traces " ++ decimal (number_of version) ++ 10 ∷ []
traces_head-is One = ap (λ (d : List ℕ). codes "dyckmon-traces " ++ d ++ 10 ∷ []) (sym (decimal_digit 1 (omega arith)))
traces_head-is Two = ap (λ (d : List ℕ). codes "dyckmon-traces " ++ d ++ 10 ∷ []) (sym (decimal_digit 2 (omega arith)))

is_version : (version : TracesVersion) → (number_of version ≡ 1) ⊎ (number_of version ≡ 2)
is_version One = inl refl
is_version Two = inr refl

small_version : (version : TracesVersion) → number_of version < 2 ^ 32
small_version One = omega arith
small_version Two = omega arith

head_whole : (version : TracesVersion) → IsWhole (traces_head version)
head_whole One = record { front = codes "dyckmon-traces 1"; plain = no_feed_within (codes "dyckmon-traces 1") refl; ends = refl }
head_whole Two = record { front = codes "dyckmon-traces 2"; plain = no_feed_within (codes "dyckmon-traces 2") refl; ends = refl }

-- a text begins with one version's line
pub head_same : (v v' : TracesVersion) (w w' : List ℕ) → traces_head v ++ w ≡ traces_head v' ++ w' → (v' ≡ v) × (w ≡ w')
head_same One One w w' is = (refl, append_cancel_left (traces_head One) w w' is)
head_same Two Two w w' is = (refl, append_cancel_left (traces_head Two) w w' is)
head_same One Two w w' is = absurd (true≢false (ap (λ (t : List ℕ). nat_eq (get_or t 15 0) 49) is))
head_same Two One w w' is = absurd (true≢false (ap (λ (t : List ℕ). nat_eq (get_or t 15 0) 50) is))

head_feed : (version : TracesVersion) (rest : List ℕ) → Contains (traces_head version ++ rest) 10
head_feed version rest =
    let whole = head_whole version in
    Contains-append_left (traces_head version) rest 10 (subst (λ (t : List ℕ). Contains t 10) (sym whole.ends) (Contains-append_right whole.front (10 ∷ []) 10 (0, omega arith, refl)))

formed_begins : (text : List ℕ) → AreFormedTraces text → (v : TracesVersion) × (rest : List ℕ) × (text ≡ traces_head v ++ rest)
formed_begins text formed =
    (formed.0, flat_map record_line formed.1 ++ codes "end\n", formed.2.is ∙ append_assoc (traces_head formed.0) (flat_map record_line formed.1) (codes "end\n"))

passes_begins : (text : List ℕ) (v : TracesVersion) (before : List Record) (last : Record) → PassesALimit text v before last → (v : TracesVersion) × (rest : List ℕ) × (text ≡ traces_head v ++ rest)
passes_begins text v before last passes =
    (v, flat_map record_line (before ++ last ∷ []) ++ passes.rest, passes.is ∙ append_assoc (traces_head v) (flat_map record_line (before ++ last ∷ [])) passes.rest)

too_much_begins : (text : List ℕ) → HasTooMuch text → (v : TracesVersion) × (rest : List ℕ) × (text ≡ traces_head v ++ rest)
too_much_begins text (inl has) = passes_begins text has.0 has.1 has.2 has.3
too_much_begins text (inr has) = passes_begins text has.1.0 has.1.1 has.1.2 has.1.3

begins : (text : List ℕ) → AreFormedTraces text ⊎ HasTooMuch text → (v : TracesVersion) × (rest : List ℕ) × (text ≡ traces_head v ++ rest)
begins text (inl formed) = formed_begins text formed
begins text (inr much) = too_much_begins text much

no_records_end : AreRecordsAndEnd (codes "end\n")
no_records_end = ([], All-nil IsWrittenRecord, refl)

formed_after_head : (version : TracesVersion) (rest : List ℕ) → AreRecordsAndEnd rest → AreFormedTraces (traces_head version ++ rest)
formed_after_head version rest on =
    (version, on.0, record { written = on.1; is = ap (λ (t : List ℕ). traces_head version ++ t) on.2 ∙ sym (append_assoc (traces_head version) (flat_map record_line on.0) (codes "end\n")) })

some_formed : AreFormedTraces (traces_head One ++ codes "end\n")
some_formed = formed_after_head One (codes "end\n") no_records_end

-- an unfinished first line is a proper prefix
pub head_short : (tail : List ℕ) → (Contains tail 10 → ⊥) → IsTracesHeadRefusal NoEnd tail → (HasTooMuch tail → ⊥) × IsProperPrefix AreFormedTraces tail
head_short tail plain (version, cut) = (
  (λ much.
      let begins = too_much_begins tail much in
      plain (subst (λ (t : List ℕ). Contains t 10) (sym begins.2) (head_feed begins.0 begins.1))),
  (
    cut.rest ++ codes "end\n",
    (λ none. cut.more (nil_front cut.rest (codes "end\n") none)),
    subst AreFormedTraces (ap (λ (t : List ℕ). t ++ codes "end\n") cut.goes_on ∙ append_assoc tail cut.rest (codes "end\n")) (formed_after_head version (codes "end\n") no_records_end),
  ),
)

-- the first line was read

passed_after_head : (v : TracesVersion) (w : List ℕ) (v' : TracesVersion) (before : List Record) (last : Record) (passes : PassesALimit (traces_head v ++ w) v' before last) → (v' ≡ v) × (w ≡ flat_map record_line (before ++ last ∷ []) ++ passes.rest)
passed_after_head v w v' before last passes =
    head_same v v' w (flat_map record_line (before ++ last ∷ []) ++ passes.rest) (passes.is ∙ append_assoc (traces_head v') (flat_map record_line (before ++ last ∷ [])) passes.rest)

too_much_after_head : (v : TracesVersion) (w : List ℕ) → HasTooMuch (traces_head v ++ w) → BeginsTooMuch v [] w
too_much_after_head v w (inl has) =
    let same = passed_after_head v w has.0 has.1 has.2 has.3 in
    (has.1, has.2, has.3.rest, has.3.written, inl has.4, same.1)
too_much_after_head v w (inr has) =
    let same = passed_after_head v w has.1.0 has.1.1 has.1.2 has.1.3 in
    (has.1.1, has.1.2, has.1.3.rest, has.1.3.written, inr (has.1.4, subst (λ (u : TracesVersion). most_processes < known_count u (has.1.1 ++ has.1.2 ∷ [])) same.0 has.1.5), same.1)

formed_follows : (v : TracesVersion) (w : List ℕ) → AreFormedTraces (traces_head v ++ w) → AreRecordsAndEnd w
formed_follows v w formed =
    (formed.1, formed.2.written, (head_same v formed.0 w (flat_map record_line formed.1 ++ codes "end\n") (formed.2.is ∙ append_assoc (traces_head formed.0) (flat_map record_line formed.1) (codes "end\n"))).1)

pub head_reached : (v : TracesVersion) → IsReached AreFormedTraces HasTooMuch HasOtherTracesVersion AreRecordsAndEnd (BeginsTooMuch v []) 1 (traces_head v)
head_reached v =
    let whole = head_whole v in
    record {
      read = one_more AreFormedTraces AreFormedTraces AreRecordsAndEnd 0 [] (traces_head v) whole.front (nothing_read AreFormedTraces (traces_head One ++ codes "end\n") some_formed) whole.ends whole.plain
          (formed_follows v) (formed_after_head v) (codes "end\n", no_records_end);
      too_much = too_much_after_head v;
      own = λ rest. no_other (traces_head v) (codes "dyckmon-traces ") rest (λ n. (n ≡ 1) ⊎ (n ≡ 2)) (number_of v) (small_version v) (is_version v) (traces_head-is v) whole;
    }

no_processes : (v : TracesVersion) → known_count v [] ≤ most_processes
no_processes v = omega (arith, len-empty nat_cmp)

pub start_read : (v : TracesVersion) (line rest : List ℕ) → IsWhole line → line ≡ traces_head v ++ rest → AreRecordsRead v 0 line []
start_read v line rest whole is =
    let same : line ≡ traces_head v = line_alone line (traces_head v) rest line [] (subst (λ (t : List ℕ). IsFirstLine t (traces_head v) rest) (sym is) (whole_first (traces_head v) rest (head_whole v))) (subst (λ (t : List ℕ). IsFirstLine t line []) (append-nil line) (whole_first line [] whole)) in
    record {
      count = refl;
      few = omega arith;
      known = no_processes v;
      written = All-nil IsWrittenRecord;
      is = same ∙ sym (append-nil (traces_head v));
      reached = subst (IsReached AreFormedTraces HasTooMuch HasOtherTracesVersion AreRecordsAndEnd (BeginsTooMuch v []) 1) (sym same) (head_reached v);
    }

-- the lines after the first

-- what may follow a line
abbrev pub FollowsRecord : TracesLine → List ℕ → Type 0
FollowsRecord (traces.Record r) rest = AreRecordsAndEnd rest
FollowsRecord traces.End rest = rest ≡ []

-- what may follow a line after these records where there is too much
abbrev pub FollowsTooMuch : TracesVersion → List Record → TracesLine → List ℕ → Type 0
FollowsTooMuch v records (traces.Record r) rest = PassesHere v records r ⊎ BeginsTooMuch v (records ++ r ∷ []) rest
FollowsTooMuch v records traces.End rest = ⊥

pub records_split : (text : List ℕ) → AreRecordsAndEnd text → GoesOn IsTracesLine traces_line FollowsRecord text
records_split text ([], written, is) = (traces.End, [], tt, refl, is)
records_split text (r ∷ records, written, is) = (
  traces.Record r,
  flat_map record_line records ++ codes "end\n",
  All-head IsWrittenRecord r records written,
  (records, All-tail IsWrittenRecord r records written, refl),
  is ∙ append_assoc (record_line r) (flat_map record_line records) (codes "end\n"),
)

pub records_joined : (text : List ℕ) → GoesOn IsTracesLine traces_line FollowsRecord text → AreRecordsAndEnd text
records_joined text (traces.Record r, rest, fits, on, is) = (
  r ∷ on.0,
  All-cons IsWrittenRecord r on.0 fits on.1,
  is ∙ ap (λ (t : List ℕ). record_line r ++ t) on.2 ∙ sym (append_assoc (record_line r) (flat_map record_line on.0) (codes "end\n")),
)
records_joined text (traces.End, rest, fits, on, is) =
    ([], All-nil IsWrittenRecord, is ∙ ap (λ (t : List ℕ). codes "end\n" ++ t) on)

pub too_much_split : (v : TracesVersion) (records : List Record) (text : List ℕ) → BeginsTooMuch v records text → GoesOn IsTracesLine traces_line (FollowsTooMuch v records) text
too_much_split v records text ([], last, rest, written, passes, is) = (
  traces.Record last,
  rest,
  All-head IsWrittenRecord last [] written,
  inl (subst (λ (t : List Record). PassesHere v t last) (append-nil records) passes),
  is ∙ ap (λ (t : List ℕ). t ++ rest) (append-nil (record_line last)),
)
too_much_split v records text (r ∷ more, last, rest, written, passes, is) = (
  traces.Record r,
  flat_map record_line (more ++ last ∷ []) ++ rest,
  All-head IsWrittenRecord r (more ++ last ∷ []) written,
  inr (more, last, rest, All-tail IsWrittenRecord r (more ++ last ∷ []) written, subst (λ (t : List Record). PassesHere v t last) (sym (append_assoc records (r ∷ []) more)) passes, refl),
  is ∙ append_assoc (record_line r) (flat_map record_line (more ++ last ∷ [])) rest,
)

pub may_follow : (v : TracesLine) → IsTracesLine v → (rest : List ℕ) × FollowsRecord v rest
may_follow (traces.Record r) fits = (codes "end\n", no_records_end)
may_follow traces.End fits = ([], refl)

-- the lines through a record's
records_more : (v : TracesVersion) (lines line : List ℕ) (records : List Record) (r : Record) → lines ≡ records_text v records → line ≡ record_line r → lines ++ line ≡ records_text v (records ++ r ∷ [])
records_more v lines line records r is same =
    ap (λ (t : List ℕ). t ++ line) is ∙ append_assoc (traces_head v) (flat_map record_line records) line
    ∙ ap (λ (t : List ℕ). traces_head v ++ t) (ap (λ (t : List ℕ). flat_map record_line records ++ t) (same ∙ sym (append-nil (record_line r))) ∙ sym (flat_map-append record_line records (r ∷ [])))

not_passed : (v : TracesVersion) (records : List Record) (r : Record) → length records < most → known_count v (records ++ r ∷ []) ≤ most_processes → PassesHere v records r → ⊥
not_passed v records r few known (inl many) = absurd (omega (arith, few, many))
not_passed v records r few known (inr (less, many)) = absurd (omega (arith, known, many))

-- a record's line was read
pub record_read : (v : TracesVersion) (n : ℕ) (lines line : List ℕ) (records : List Record) (r : Record) → AreRecordsRead v n lines records → IsWhole line → n < most → known_count v (records ++ r ∷ []) ≤ most_processes → StandsFirst IsTracesLine traces_line line [] (traces.Record r) → AreRecordsRead v (n + 1) (lines ++ line) (records ++ r ∷ [])
record_read v n lines line records r read whole few known first =
    let same : line ≡ record_line r = first.stands ∙ append-nil (record_line r) in
    record {
      count = ap (λ (k : ℕ). k + 1) read.count ∙ sym (length-append records (r ∷ []));
      few = let len = length-append records (r ∷ []) in let count = read.count in omega (arith, len, count, few);
      known = known;
      written = All-push IsWrittenRecord records r read.written first.fits;
      is = records_more v lines line records r read.is same;
      reached = line_read AreFormedTraces HasTooMuch HasOtherTracesVersion AreRecordsAndEnd (BeginsTooMuch v records) (n + 1) lines read.reached IsTracesLine traces_line FollowsRecord (FollowsTooMuch v records) records_split (too_much_split v records)
          (BeginsTooMuch v (records ++ r ∷ [])) line (traces.Record r) records_joined whole first (codes "end\n", no_records_end)
          (λ w much. elim much [
            | inl here ↦ absurd (not_passed v records r (subst (λ (k : ℕ). k < most) read.count few) known here)
            | inr later ↦ later
          ]);
    }

-- the end line was read
pub end_read : (v : TracesVersion) (n : ℕ) (lines line : List ℕ) (records : List Record) → AreRecordsRead v n lines records → IsWhole line → StandsFirst IsTracesLine traces_line line [] traces.End → AreTracesRead v n (lines ++ line) records
end_read v n lines line records read whole first =
    let same : line ≡ codes "end\n" = first.stands in
    record {
      count = read.count;
      few = read.few;
      known = read.known;
      traces = record { written = read.written; is = ap (λ (t : List ℕ). t ++ line) read.is ∙ ap (λ (t : List ℕ). records_text v records ++ t) same };
      reached = subst (λ (k : ℕ). IsReached AreFormedTraces HasTooMuch HasOtherTracesVersion (λ rest. rest ≡ []) (λ rest. ⊥) k (lines ++ line)) (omega arith)
          (line_read AreFormedTraces HasTooMuch HasOtherTracesVersion AreRecordsAndEnd (BeginsTooMuch v records) (n + 1) lines read.reached IsTracesLine traces_line FollowsRecord (FollowsTooMuch v records) records_split (too_much_split v records) (λ rest. ⊥) line traces.End records_joined whole first ([], refl) (λ w much. much));
    }

-- why a line is refused

-- the lines of the records and of one more stand first
passes_limit : (v : TracesVersion) (n : ℕ) (lines line more : List ℕ) (records : List Record) (r : Record) → AreRecordsRead v n lines records → StandsFirst IsTracesLine traces_line line [] (traces.Record r) → PassesALimit (lines ++ line ++ more) v records r
passes_limit v n lines line more records r read first =
    record {
      rest = more;
      written = All-push IsWrittenRecord records r read.written first.fits;
      is = ap (λ (t : List ℕ). t ++ more) (records_more v lines line records r read.is (first.stands ∙ append-nil (record_line r)));
      few = read.few;
      known = read.known;
    }

-- one record too many
pub too_many_shown : (v : TracesVersion) (n : ℕ) (lines line : List ℕ) (records : List Record) (r : Record) → AreRecordsRead v n lines records → most ≤ n → StandsFirst IsTracesLine traces_line line [] (traces.Record r) → IsShown IsTracesRefusal TooLong (lines ++ line)
too_many_shown v n lines line records r read much first more short =
    inr (v, records, r, passes_limit v n lines line more records r read first, let count = read.count in let le = read.few in omega (arith, count, le, much))

-- one process too many
pub too_many_processes_shown : (v : TracesVersion) (n k : ℕ) (lines line : List ℕ) (records : List Record) (r : Record) → AreRecordsRead v n lines records → n < most → most_processes < known_count v (records ++ r ∷ []) → k ≡ n + 2 → StandsFirst IsTracesLine traces_line line [] (traces.Record r) → IsShown IsTracesRefusal (TooManyProcesses k) (lines ++ line)
too_many_processes_shown v n k lines line records r read few much number first more short =
    (short, (v, records, r, passes_limit v n lines line more records r read first, subst (λ (i : ℕ). i < most) read.count few, much, number ∙ ap (λ (i : ℕ). i + 2) read.count))

-- the first line is refused
head_refused : (error : TraceError) (text line rest : List ℕ) → length text ≤ longest → IsFirstLine text line rest → IsTracesHeadRefusal error line → (IsTracesHeadRefusal NoEnd line → IsTracesRefusal NoEnd text) → IsTracesRefusal error text
head_refused OutOfMemory text line rest short first refused cut = tt
head_refused Version text line rest short first refused cut = (short, other_version (codes "dyckmon-traces ") text line rest (λ n. (n ≡ 1) ⊎ (n ≡ 2)) first refused)
head_refused (BadLine k) text line rest short first refused cut =
    bad_head traces_head (codes "dyckmon-traces ") (λ n. (n ≡ 1) ⊎ (n ≡ 2)) AreFormedTraces HasTooMuch (traces_head One ++ codes "end\n") some_formed begins k text line rest short first refused
head_refused NoEnd text line rest short first refused cut = cut refused
head_refused error text line rest short first refused cut = absurd refused

head_shown : (error : TraceError) (line : List ℕ) → IsWhole line → IsTracesHeadRefusal error line → IsShown IsTracesRefusal error line
head_shown error line whole refused more short =
    head_refused error (line ++ more) line more short (whole_first line more whole) refused (λ cut. absurd (ended_not_short {V = Unit {0}} (λ _. Unit {0}) (λ _. traces_head cut.0) line whole.front whole.ends cut.1))

-- a line after the first is refused
pub line_shown : (v : TracesVersion) (n : ℕ) (error : TraceError) (lines line : List ℕ) (records : List Record) → AreRecordsRead v n lines records → IsWhole line → IsRecordRefusal n error line → IsShown IsTracesRefusal error (lines ++ line)
line_shown v n OutOfMemory lines line records read whole refused = λ more short. tt
line_shown v n (BadLine k) lines line records read whole refused =
    wrong_shown AreFormedTraces HasTooMuch HasOtherTracesVersion AreRecordsAndEnd (BeginsTooMuch v records) (n + 1) lines read.reached IsTracesLine traces_line FollowsRecord (FollowsTooMuch v records) records_split (too_much_split v records) k line (omega (arith, refused.0)) whole refused.1
line_shown v n NoEnd lines line records read whole cut = λ more short. absurd (ended_not_short IsTracesLine traces_line line whole.front whole.ends cut)
line_shown v n TooLong lines line records read whole refused = too_many_shown v n lines line records refused.0 read refused.1 refused.2
line_shown v n error lines line records read whole refused = λ more short. absurd refused

-- the end of the text

ends_feed : (v : TracesLine) (rest : List ℕ) → Contains (traces_line v ++ rest) 10
ends_feed (traces.Record r) rest =
    Contains-append_left (record_line r) rest 10 (Contains-append_right (decimal r.pid) (32 ∷ event_line r.event) 10 (Contains-append_right (32 ∷ event_text r.event) (10 ∷ []) 10 (0, omega arith, refl)))
ends_feed traces.End rest = (3, omega arith, refl)

-- no line stands in a text without a line feed
pub none_stands : (tail rest : List ℕ) (v : TracesLine) → (Contains tail 10 → ⊥) → tail ≡ traces_line v ++ rest → ⊥
none_stands tail rest v plain is = plain (subst (λ (t : List ℕ). Contains t 10) (sym is) (ends_feed v rest))

pub no_head : (version : TracesVersion) (tail rest : List ℕ) → (Contains tail 10 → ⊥) → tail ≡ traces_head version ++ rest → ⊥
no_head version tail rest plain is = plain (subst (λ (t : List ℕ). Contains t 10) (sym is) (head_feed version rest))

-- the text ends within its first line
head_ends : (error : TraceError) (tail : List ℕ) → (Contains tail 10 → ⊥) → length tail ≤ longest → IsTracesHeadRefusal error tail → IsTracesRefusal error tail
head_ends error tail plain short refused = head_refused error tail tail [] short (unfinished_first tail plain) refused (λ cut. let prefix = head_short tail plain cut in (short, prefix.0, prefix.1))

-- the text ends within a line after the first
pub line_ends : (v : TracesVersion) (n : ℕ) (error : TraceError) (lines tail : List ℕ) (records : List Record) → AreRecordsRead v n lines records → (Contains tail 10 → ⊥) → length (lines ++ tail) ≤ longest → IsRecordRefusal n error tail → IsTracesRefusal error (lines ++ tail)
line_ends v n OutOfMemory lines tail records read plain short refused = tt
line_ends v n (BadLine k) lines tail records read plain short refused =
    wrong_ends AreFormedTraces HasTooMuch HasOtherTracesVersion AreRecordsAndEnd (BeginsTooMuch v records) (n + 1) lines read.reached IsTracesLine traces_line FollowsRecord (FollowsTooMuch v records) records_split (too_much_split v records) k tail (omega (arith, refused.0)) short plain refused.1
line_ends v n NoEnd lines tail records read plain short cut =
    let more = short_line IsTracesLine traces_line FollowsRecord tail may_follow cut in
    let prefix = prefix_next AreFormedTraces HasTooMuch HasOtherTracesVersion AreRecordsAndEnd (BeginsTooMuch v records) (n + 1) lines read.reached tail (more.0, more.1, records_joined (tail ++ more.0) more.2)
    (λ much. let on = too_much_split v records tail much in none_stands tail on.1 on.0 plain on.4) in
    (short, prefix.0, prefix.1)
line_ends v n TooLong lines tail records read plain short refused = absurd (none_stands tail [] (traces.Record refused.0) plain refused.2.stands)
line_ends v n error lines tail records read plain short refused = absurd refused

-- the text ends with its end line
pub end_within : (v : TracesVersion) (n : ℕ) (lines tail : List ℕ) (records : List Record) → AreTracesRead v n lines records → length (lines ++ tail) ≤ longest → tail ≡ [] → AreTracesWithin (lines ++ tail) v records
end_within v n lines tail records read short none =
    let same : lines ≡ lines ++ tail = sym (append-nil lines) ∙ ap (λ (t : List ℕ). lines ++ t) (sym none) in
    record { traces = subst (λ (t : List ℕ). AreTraces t v records) same read.traces; few = read.few; known = read.known; short = short }

-- what a refusal tells of the version

head_tells : (error : TraceError) (line more : List ℕ) → IsWhole line → IsTracesHeadRefusal error line → error ≢ OutOfMemory → (v : TracesVersion) → BeginsWith (Some v) (line ++ more) → ⊥
head_tells OutOfMemory line more whole refused other v begins = other refl
head_tells Version line more whole refused other v (rest, is) =
    (head_reached v).own rest (subst HasOtherTracesVersion is (other_version (codes "dyckmon-traces ") (line ++ more) line more (λ n. (n ≡ 1) ⊎ (n ≡ 2)) (whole_first line more whole) refused))
head_tells (BadLine k) line more whole refused other v (rest, is) = refused.1 v (prefixes_agree (traces_head v) line rest more (sym is))
head_tells NoEnd line more whole cut other v begins = absurd (ended_not_short {V = Unit {0}} (λ _. Unit {0}) (λ _. traces_head cut.0) line whole.front whole.ends cut.1)
head_tells error line more whole refused other v begins = refused

-- the lines before a place whose stage tells a version begin with that version's line
stage_head : (at : TracesStage) (ks lines : List ℕ) (records : List Record) (v : TracesVersion) → ReachesStage at ks lines records → stage_version at ≡ Some v → (rest : List ℕ) × (lines ≡ traces_head v ++ rest)
stage_head stage.Start ks lines records v reached is = cc
stage_head (stage.Records u n) ks lines records v reached is =
    let same : u ≡ v = cc in
    (flat_map record_line records, reached.1.is ∙ ap (λ (x : TracesVersion). traces_head x ++ flat_map record_line records) same)
stage_head (stage.End u n) ks lines records v reached is =
    let same : u ≡ v = cc in
    (flat_map record_line records ++ codes "end\n", reached.traces.is ∙ append_assoc (traces_head u) (flat_map record_line records) (codes "end\n") ∙ ap (λ (x : TracesVersion). traces_head x ++ (flat_map record_line records ++ codes "end\n")) same)

stage_first : (at : TracesStage) (ks lines more : List ℕ) (records : List Record) (v : TracesVersion) → ReachesStage at ks lines records → stage_version at ≡ Some v → BeginsWith (Some v) (lines ++ more)
stage_first at ks lines more records v reached is =
    let head = stage_head at ks lines records v reached is in
    (head.0 ++ more, ap (λ (t : List ℕ). t ++ more) head.1 ∙ append_assoc (traces_head v) head.0 more)

stage_tells : (at : TracesStage) (ks lines more : List ℕ) (records : List Record) (w v : TracesVersion) → ReachesStage at ks lines records → stage_version at ≡ Some w → BeginsWith (Some v) (lines ++ more) → stage_version at ≡ Some v
stage_tells at ks lines more records w v reached is (rest, begins) =
    let head = stage_first at ks lines more records w reached is in
    is ∙ ap Some (head_same v w rest head.0 (sym begins ∙ head.1)).0

start_refused_at : (at : TracesStage) (error : TraceError) (line : List ℕ) → at ≡ stage.Start → IsWhole line → IsTracesHeadRefusal error line → IsShown (IsRefusedAt at) error line
start_refused_at at error line is whole refused more short =
    record {
      refusal = head_shown error line whole refused more short;
      tells = λ other v begins. absurd (head_tells error line more whole refused other v begins);
      first = λ other v told. absurd (let none : ◌≡◌ {A = Option TracesVersion} None (Some v) = sym (ap stage_version is) ∙ told in cc);
    }

later_refused_at : (at : TracesStage) (ks lines line : List ℕ) (records : List Record) (error : TraceError) (w : TracesVersion) → ReachesStage at ks lines records → stage_version at ≡ Some w → IsShown IsTracesRefusal error (lines ++ line) → IsShown (IsRefusedAt at) error (lines ++ line)
later_refused_at at ks lines line records error w reached is shown more short =
    record {
      refusal = shown more short;
      tells = λ other v begins. stage_tells at ks lines (line ++ more) records w v reached is (subst (BeginsWith (Some v)) (append_assoc lines line more) begins);
      first = λ other v told. subst (BeginsWith (Some v)) (sym (append_assoc lines line more)) (stage_first at ks lines (line ++ more) records v reached told);
    }

-- from one place to the next

pub start_shows : (at : TracesStage) (ks : List ℕ) (error : TraceError) (line : List ℕ) → at ≡ stage.Start → IsWhole line → IsTracesHeadRefusal error line → (lines : List ℕ) (records : List Record) → ReachesStage at ks lines records → IsShown (IsRefusedAt at) error (lines ++ line)
start_shows at ks error line is whole refused lines records reached =
    let start = subst (λ (s : TracesStage). ReachesStage s ks lines records) is reached in
    subst (λ (t : List ℕ). IsShown (IsRefusedAt at) error (t ++ line)) (sym start.1) (start_refused_at at error line is whole refused)

pub none_known : AreKnown [] []
none_known = record { same = refl; apart = len-empty nat_cmp }

pub start_takes : (at : TracesStage) (ks : List ℕ) (v : TracesVersion) (line rest : List ℕ) → at ≡ stage.Start → IsWhole line → line ≡ traces_head v ++ rest → (lines : List ℕ) (records : List Record) → ReachesStage at ks lines records → ReachesStage (stage.Records v 0) ks (lines ++ line) (records ++ [])
start_takes at ks v line rest is whole head lines records reached =
    let start = subst (λ (s : TracesStage). ReachesStage s ks lines records) is reached in
    subst (λ (t : List ℕ). ReachesStage (stage.Records v 0) t (lines ++ line) (records ++ [])) (sym start.0)
    (subst (λ (t : List ℕ). ReachesStage (stage.Records v 0) [] (t ++ line) (records ++ [])) (sym start.1)
    (subst (λ (t : List Record). ReachesStage (stage.Records v 0) [] line (t ++ [])) (sym start.2) (none_known, start_read v line rest whole head)))

pub line_shows : (at : TracesStage) (ks : List ℕ) (v : TracesVersion) (n : ℕ) (error : TraceError) (line : List ℕ) → at ≡ stage.Records v n → IsWhole line → IsRecordRefusal n error line → (lines : List ℕ) (records : List Record) → ReachesStage at ks lines records → IsShown (IsRefusedAt at) error (lines ++ line)
line_shows at ks v n error line is whole refused lines records reached =
    later_refused_at at ks lines line records error v reached (ap stage_version is)
    (line_shown v n error lines line records (subst (λ (s : TracesStage). ReachesStage s ks lines records) is reached).1 whole refused)

pub record_takes : (at : TracesStage) (ks later : List ℕ) (v : TracesVersion) (n : ℕ) (line : List ℕ) (found : TracesLine) (r : Record) → at ≡ stage.Records v n → IsWhole line → HasRecordRoom n found → StandsFirst IsTracesLine traces_line line [] found → found ≡ traces.Record r → ((numbers : List ℕ) → AreKnown ks numbers → AreKnown later (numbers ++ made_known v r)) → length later ≤ most_processes → (lines : List ℕ) (records : List Record) → ReachesStage at ks lines records → ReachesStage (stage.Records v (n + 1)) later (lines ++ line) (records ++ r ∷ [])
record_takes at ks later v n line found r is whole room first one grows few lines records reached =
    let here = subst (λ (s : TracesStage). ReachesStage s ks lines records) is reached in
    let now : AreKnown later (flat_map (made_known v) (records ++ r ∷ [])) = subst (AreKnown later) (made_push v records r) (grows (flat_map (made_known v) records) here.0) in
    let count = known_length v later (records ++ r ∷ []) now in
    (now, record_read v n lines line records r here.1 whole (subst (HasRecordRoom n) one room) (omega (arith, count, few)) (subst (λ (x : TracesLine). StandsFirst IsTracesLine traces_line line [] x) one first))

pub record_shows : (at : TracesStage) (ks later : List ℕ) (v : TracesVersion) (n k : ℕ) (line : List ℕ) (found : TracesLine) (r : Record) → at ≡ stage.Records v n → IsWhole line → HasRecordRoom n found → StandsFirst IsTracesLine traces_line line [] found → found ≡ traces.Record r → ((numbers : List ℕ) → AreKnown ks numbers → AreKnown later (numbers ++ made_known v r)) → most_processes < length later → k ≡ n + 2 → (lines : List ℕ) (records : List Record) → ReachesStage at ks lines records → IsShown (IsRefusedAt at) (TooManyProcesses k) (lines ++ line)
record_shows at ks later v n k line found r is whole room first one grows much number lines records reached =
    let here = subst (λ (s : TracesStage). ReachesStage s ks lines records) is reached in
    let now : AreKnown later (flat_map (made_known v) (records ++ r ∷ [])) = subst (AreKnown later) (made_push v records r) (grows (flat_map (made_known v) records) here.0) in
    let count = known_length v later (records ++ r ∷ []) now in
    later_refused_at at ks lines line records (TooManyProcesses k) v reached (ap stage_version is)
    (too_many_processes_shown v n k lines line records r here.1 (subst (HasRecordRoom n) one room) (omega (arith, count, much)) number (subst (λ (x : TracesLine). StandsFirst IsTracesLine traces_line line [] x) one first))

pub end_takes : (at : TracesStage) (ks : List ℕ) (v : TracesVersion) (n : ℕ) (line : List ℕ) (found : TracesLine) → at ≡ stage.Records v n → IsWhole line → StandsFirst IsTracesLine traces_line line [] found → found ≡ traces.End → (lines : List ℕ) (records : List Record) → ReachesStage at ks lines records → ReachesStage (stage.End v n) ks (lines ++ line) (records ++ [])
end_takes at ks v n line found is whole first one lines records reached =
    subst (λ (t : List Record). AreTracesRead v n (lines ++ line) t) (sym (append-nil records))
    (end_read v n lines line records (subst (λ (s : TracesStage). ReachesStage s ks lines records) is reached).1 whole (subst (λ (x : TracesLine). StandsFirst IsTracesLine traces_line line [] x) one first))

pub after_end_shows : (at : TracesStage) (ks : List ℕ) (v : TracesVersion) (n k : ℕ) (line : List ℕ) → at ≡ stage.End v n → IsWhole line → k ≡ n + 3 → (lines : List ℕ) (records : List Record) → ReachesStage at ks lines records → IsShown (IsRefusedAt at) (BadLine k) (lines ++ line)
after_end_shows at ks v n k line is whole number lines records reached =
    let read = subst (λ (s : TracesStage). ReachesStage s ks lines records) is reached in
    later_refused_at at ks lines line records (BadLine k) v reached (ap stage_version is)
    (bad_shown AreFormedTraces HasTooMuch HasOtherTracesVersion (λ rest. rest ≡ []) (λ rest. ⊥) (n + 2) lines read.reached k line (omega (arith, number)) whole (λ w none. whole_some line w whole none) (λ w much. much))

-- why the text with this tail is refused, at this place
abbrev pub EndsRefused : TracesStage → List ℕ → TraceError → List ℕ → Type 0
EndsRefused at ks error tail = (lines : List ℕ) (records : List Record) → ReachesStage at ks lines records → length (lines ++ tail) ≤ longest → IsTracesRefusal error (lines ++ tail)

pub start_refused : (at : TracesStage) (ks : List ℕ) (error : TraceError) (tail : List ℕ) → at ≡ stage.Start → (Contains tail 10 → ⊥) → IsTracesHeadRefusal error tail → EndsRefused at ks error tail
start_refused at ks error tail is plain refused lines records reached short =
    let start = subst (λ (s : TracesStage). ReachesStage s ks lines records) is reached in
    let short' : length tail ≤ longest = subst (λ (t : List ℕ). length (t ++ tail) ≤ longest) start.1 short in
    subst (λ (t : List ℕ). IsTracesRefusal error (t ++ tail)) (sym start.1) (head_ends error tail plain short' refused)

pub line_refused : (at : TracesStage) (ks : List ℕ) (v : TracesVersion) (n : ℕ) (error : TraceError) (tail : List ℕ) → at ≡ stage.Records v n → (Contains tail 10 → ⊥) → IsRecordRefusal n error tail → EndsRefused at ks error tail
line_refused at ks v n error tail is plain refused lines records reached short =
    line_ends v n error lines tail records (subst (λ (s : TracesStage). ReachesStage s ks lines records) is reached).1 plain short refused

pub end_refused : (at : TracesStage) (ks : List ℕ) (v : TracesVersion) (n k : ℕ) (tail : List ℕ) → at ≡ stage.End v n → (Contains tail 10 → ⊥) → tail ≢ [] → k ≡ n + 3 → EndsRefused at ks (BadLine k) tail
end_refused at ks v n k tail is plain some number lines records reached short =
    let read = subst (λ (s : TracesStage). ReachesStage s ks lines records) is reached in
    bad_next AreFormedTraces HasTooMuch HasOtherTracesVersion (λ rest. rest ≡ []) (λ rest. ⊥) (n + 2) lines read.reached k tail tail [] (omega (arith, number)) short (unfinished_first tail plain) (λ w none. some (nil_front tail w none)) (λ w much. much)

pub ends_here : (at : TracesStage) (ks : List ℕ) (v : TracesVersion) (n : ℕ) (tail : List ℕ) → at ≡ stage.End v n → tail ≡ [] → (lines : List ℕ) (records : List Record) → ReachesStage at ks lines records → length (lines ++ tail) ≤ longest → AreTracesOf (stage_version at) (lines ++ tail) records
ends_here at ks v n tail is none lines records reached short =
    subst (λ (s : TracesStage). AreTracesOf (stage_version s) (lines ++ tail) records) (sym is)
    (end_within v n lines tail records (subst (λ (s : TracesStage). ReachesStage s ks lines records) is reached) short none)

-- the version that the reader has read

stage_begins : (at : TracesStage) (ks lines tail : List ℕ) (records : List Record) → ReachesStage at ks lines records → (Contains tail 10 → ⊥) → BeginsWith (stage_version at) (lines ++ tail)
stage_begins stage.Start ks lines tail records reached plain =
    λ has. plain (subst (λ (t : List ℕ). Contains (t ++ tail) 10) reached.1 has)
stage_begins (stage.Records v n) ks lines tail records reached plain = stage_first (stage.Records v n) ks lines tail records v reached refl
stage_begins (stage.End v n) ks lines tail records reached plain = stage_first (stage.End v n) ks lines tail records v reached refl

pub begins_with : (held : Held TracesPlace) (text : List ℕ) (records : List Record) → StandForTraces held text records → BeginsWith (traces_version held) text
begins_with held text records stands =
    subst (BeginsWith (traces_version held)) (sym stands.parts) (stage_begins held.place.stage held.place.known stands.done held.tail records stands.reached stands.plain)

-- a version that was read stays
same_version : (now : Option TracesVersion) (v : TracesVersion) (text piece rest : List ℕ) → text ≡ traces_head v ++ rest → BeginsWith now (text ++ piece) → now ≡ Some v
same_version None v text piece rest is plain =
    absurd (plain (subst (λ (t : List ℕ). Contains t 10) (sym (ap (λ (t : List ℕ). t ++ piece) is ∙ append_assoc (traces_head v) rest piece)) (head_feed v (rest ++ piece))))
same_version (Some v') v text piece rest is begins =
    ap Some (head_same v v' (rest ++ piece) begins.0 (sym (append_assoc (traces_head v) rest piece) ∙ ap (λ (t : List ℕ). t ++ piece) (sym is) ∙ begins.1)).0

pub version_kept : (old new : Held TracesPlace) (text piece : List ℕ) (records later : List Record) (v : TracesVersion) → StandForTraces old text records → StandForTraces new (text ++ piece) later → traces_version old ≡ Some v → traces_version new ≡ Some v
version_kept old new text piece records later v before after is =
    let begun = subst (λ (o : Option TracesVersion). BeginsWith o text) is (begins_with old text records before) in
    same_version (traces_version new) v text piece begun.0 begun.1 (begins_with new (text ++ piece) later after)

-- a text whose version was told goes on with it
pub still_begins : (old : Held TracesPlace) (text piece : List ℕ) (records : List Record) (v : TracesVersion) → StandForTraces old text records → traces_version old ≡ Some v → BeginsWith (Some v) (text ++ piece)
still_begins old text piece records v stands is =
    let begun = subst (λ (o : Option TracesVersion). BeginsWith o text) is (begins_with old text records stands) in
    (begun.0 ++ piece, ap (λ (t : List ℕ). t ++ piece) begun.1 ∙ append_assoc (traces_head v) begun.0 piece)

-- why a text that is not too long is refused
refused_now : (at : TracesStage) (error : TraceError) (text : List ℕ) → IsShown (IsRefusedAt at) error text → length text ≤ longest → IsRefusedAt at error text
refused_now at error text shown short =
    let same = append-nil text in
    subst (IsRefusedAt at error) same (shown [] (subst (λ (t : List ℕ). length t ≤ longest) (sym same) short))

memory_or_other : (error : TraceError) → (error ≡ OutOfMemory) ⊎ (error ≢ OutOfMemory)
memory_or_other OutOfMemory = inl refl
memory_or_other (BadLine k) = inr (λ same. cc)
memory_or_other NoEnd = inr (λ same. cc)
memory_or_other TooLong = inr (λ same. cc)
memory_or_other (TooManyProcesses k) = inr (λ same. cc)
memory_or_other Version = inr (λ same. cc)

-- at a refusal the version stays, or the text was not too long
version_or_refused : (old new : Held TracesPlace) (error : TraceError) (text : List ℕ) → (error ≡ OutOfMemory → new ≡ old) → (longest < length text → new.place ≡ old.place) → IsShown (IsRefusedAt new.place.stage) error text → (traces_version new ≡ traces_version old) ⊎ ((error ≢ OutOfMemory) × IsRefusedAt new.place.stage error text)
version_or_refused old new error text memory long shown =
    elim (memory_or_other error) [
      | inl none ↦ inl (ap traces_version (memory none))
      | inr other ↦
          elim (cases_lt longest (length text)) [
            | inl over ↦ inl (ap (λ (p : TracesPlace). stage_version p.stage) (long over))
            | inr short ↦ inr (other, refused_now new.place.stage error text shown short)
          ]
    ]

-- a reader that was given nothing
pub nothing_given : (place : TracesPlace) → ReachesTraces place [] [] → StandForTraces (record { place = place; tail = []; size = 0; refused = None }) [] []
nothing_given place reached = record { done = []; unrefused = refl; reached = reached; parts = refl; plain = λ has. omega (arith, has.1); size = refl; short = omega arith }

-- the facts of a piece that was fed
module _ {W : Type 0} (items : W → List Record) (old new : Held TracesPlace) (piece : List ℕ) where
  pub feed_kept : (result : Result W TraceError) → IfOk result (λ given. (text : List ℕ) (records : List Record) → StandForTraces old text records → StandForTraces new (text ++ piece) (records ++ items given)) → (result ≡ Err OutOfMemory → new ≡ old) → ((text : List ℕ) (records : List Record) → StandForTraces old text records → longest < length (text ++ piece) → (result ≡ Err TooLong) × (new.place ≡ old.place)) → IfErr result (λ error. (text : List ℕ) (records : List Record) → StandForTraces old text records → IsShown (IsRefusedAt new.place.stage) error (text ++ piece)) → (text : List ℕ) (records : List Record) (v : TracesVersion) → StandForTraces old text records → traces_version old ≡ Some v → traces_version new ≡ Some v
  feed_kept (Ok given) stands memory long shown text records v before is = version_kept old new text piece records (records ++ items given) v before (stands text records before) is
  feed_kept (Err error) stands memory long shown text records v before is =
      elim (version_or_refused old new error (text ++ piece) (λ none. memory (ap Err none)) (λ over. (long text records before over).1) (shown text records before)) [
        | inl same ↦ same ∙ is
        | inr refused ↦ refused.1.tells refused.0 v (still_begins old text piece records v before is)
      ]

  pub feed_first : (result : Result W TraceError) → IfOk result (λ given. (text : List ℕ) (records : List Record) → StandForTraces old text records → StandForTraces new (text ++ piece) (records ++ items given)) → (result ≡ Err OutOfMemory → new ≡ old) → ((text : List ℕ) (records : List Record) → StandForTraces old text records → longest < length (text ++ piece) → (result ≡ Err TooLong) × (new.place ≡ old.place)) → IfErr result (λ error. (text : List ℕ) (records : List Record) → StandForTraces old text records → IsShown (IsRefusedAt new.place.stage) error (text ++ piece)) → (text : List ℕ) (records : List Record) (v : TracesVersion) → StandForTraces old text records → traces_version new ≡ Some v → BeginsWith (Some v) (text ++ piece)
  feed_first (Ok given) stands memory long shown text records v before told =
      subst (λ (o : Option TracesVersion). BeginsWith o (text ++ piece)) told (begins_with new (text ++ piece) (records ++ items given) (stands text records before))
  feed_first (Err error) stands memory long shown text records v before told =
      elim (version_or_refused old new error (text ++ piece) (λ none. memory (ap Err none)) (λ over. (long text records before over).1) (shown text records before)) [
        | inl same ↦ still_begins old text piece records v before (sym same ∙ told)
        | inr refused ↦ refused.1.first refused.0 v told
      ]

  pub feed_told : (error : TraceError) → ((text : List ℕ) (records : List Record) → StandForTraces old text records → IsShown (IsRefusedAt new.place.stage) error (text ++ piece)) → error ≢ OutOfMemory → (text : List ℕ) (records : List Record) (v : TracesVersion) → StandForTraces old text records → length (text ++ piece) ≤ longest → BeginsWith (Some v) (text ++ piece) → traces_version new ≡ Some v
  feed_told error shown other text records v before short begins = (refused_now new.place.stage error (text ++ piece) (shown text records before) short).tells other v begins

-- the text of a reader ends

pub finish_within : (held : Held TracesPlace) (at : TracesPlace) (tail : List ℕ) → at ≡ held.place → tail ≡ held.tail → EndsIn at tail → (text : List ℕ) (records : List Record) → StandForTraces held text records → AreTracesOf (traces_version held) text records
finish_within held at tail same_place same_tail ends text records stands =
    let here : EndsIn held.place held.tail = subst (λ (p : TracesPlace). EndsIn p held.tail) same_place (subst (EndsIn at) same_tail ends) in
    subst (λ (t : List ℕ). AreTracesOf (traces_version held) t records) (sym stands.parts)
    (here stands.done records stands.reached (subst (λ (t : List ℕ). length t ≤ longest) stands.parts stands.short))

pub finish_refused : (held : Held TracesPlace) (at : TracesPlace) (tail : List ℕ) (error : TraceError) → at ≡ held.place → tail ≡ held.tail → ((lines : List ℕ) (records : List Record) → ReachesTraces at lines records → length (lines ++ tail) ≤ longest → IsTracesRefusal error (lines ++ tail)) → (text : List ℕ) (records : List Record) → StandForTraces held text records → IsTracesRefusal error text
finish_refused held at tail error same_place same_tail refused text records stands =
    let here = subst (λ (p : TracesPlace). EndsRefused p.stage p.known error held.tail) same_place (subst (EndsRefused at.stage at.known error) same_tail refused) in
    subst (IsTracesRefusal error) (sym stands.parts)
    (here stands.done records stands.reached (subst (λ (t : List ℕ). length t ≤ longest) stands.parts stands.short))
