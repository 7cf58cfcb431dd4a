-- Watches that follow a file of interleaved traces.
use Rattle.std.proofs.Common.{◌≡◌, ℕ, ◌+◌, ◌<◌, ◌≤◌, true, false, List, [], ◌∷◌, ◌++◌, length, take, drop, get_or, Option, Some, None, is_some, refl, sym, ◌∙◌, ap, subst, append_assoc, arith, length-append, true≢false}
use Rattle.std.specs.Prelude.{All, codes, slice_index_or}
use Rattle.std.proofs.lemmas.List.{take_more, take-append-drop}
use Rattle.sys_table.specs.Table.{IsRecorded}
use Rattle.trace_file.specs.declared.record.Record.{Record}
use Rattle.trace_file.specs.declared.traces_place.TracesPlace.{TracesPlace}
use Rattle.trace_file.specs.declared.traces_place.TracesStage.{TracesStage}
use Rattle.trace_file.specs.declared.traces_place.TracesStage.TheVariants as stage
use Rattle.trace_file.specs.declared.version.TracesVersion.{TracesVersion}
use Rattle.trace_file.specs.declared.version.TracesVersion.TheVariants.{One, Two}
use Rattle.trace_file.specs.Held.{Held}
use Rattle.trace_file.specs.Known.{known_count}
use Rattle.trace_file.specs.Traces.{most_processes, traces_head, AreTracesWithin, AreTracesOf}
use Rattle.trace_file.specs.TracesReading.{StandForTraces, ReachesStage, stage_version, traces_version}
use Rattle.tool_models.specs.Following.{AreFew, HasBegun}
use Rattle.tool_files.proofs.ReadingLemmas.{written_recorded}
use Rattle.trace_file.proofs.OneReading.{known_more}

-- how many processes are known

-- a loop over records

taken_next : (before records : List Record) (i : ℕ) (r : Record) → i < length records → r ≡ get_or records i r → (before ++ take i records) ++ r ∷ [] ≡ before ++ take (i + 1) records
taken_next before records i r less next =
    append_assoc before (take i records) (r ∷ [])
    ∙ ap (λ (t : List Record). before ++ t) (ap (λ q. take i records ++ q ∷ []) next ∙ sym (take_more records i r less))

pub next_known : (v : TracesVersion) (before records : List Record) (i : ℕ) (r : Record) → i < length records → r ≡ get_or records i r → known_count v (before ++ records) ≤ most_processes → known_count v ((before ++ take i records) ++ r ∷ []) ≤ most_processes
next_known v before records i r less next few =
    let whole : (before ++ take (i + 1) records) ++ drop (i + 1) records ≡ before ++ records = append_assoc before (take (i + 1) records) (drop (i + 1) records) ∙ ap (λ (t : List Record). before ++ t) (take-append-drop (i + 1) records) in
    let here = ap (known_count v) (taken_next before records i r less next) in
    let all = ap (known_count v) whole in
    let le = known_more v (before ++ take (i + 1) records) (drop (i + 1) records) in
    omega (arith, here, all, le, few)

pub taken_more : (P : List Record → Type 0) (before records : List Record) (i : ℕ) (r : Record) → i < length records → r ≡ get_or records i r → P ((before ++ take i records) ++ r ∷ []) → P (before ++ take (i + 1) records)
taken_more P before records i r less next = subst P (taken_next before records i r less next)

-- what a reader has given

pub given_few : (reader : Held TracesPlace) (text : List ℕ) (records : List Record) → StandForTraces reader text records → AreFew (traces_version reader) records
given_few reader text records stand = by reader.place.stage stand.reached
  where
    by : (s : TracesStage) → ReachesStage s reader.place.known stand.done records → AreFew (stage_version s) records
    by stage.Start at = at.2
    by (stage.Records v n) at = (at.1.few, at.1.known)
    by (stage.End v n) at = (at.few, at.known)

head_long : (v : TracesVersion) → 1 ≤ length (traces_head v)
head_long One = let long : length (traces_head One) ≡ 17 = refl in omega (arith, long)
head_long Two = let long : length (traces_head Two) ≡ 17 = refl in omega (arith, long)

-- no version is known of a text without a byte
pub no_version : (reader : Held TracesPlace) → StandForTraces reader [] [] → traces_version reader ≡ None
no_version reader stand = by reader.place.stage stand.reached
  where
    none : length stand.done ≤ 0
    none = let all = ap length stand.parts in omega (arith, all, length-append stand.done reader.tail)

    by : (s : TracesStage) → ReachesStage s reader.place.known stand.done [] → stage_version s ≡ None
    by stage.Start at = refl
    by (stage.Records v n) at =
        let long = ap length at.1.is in
        absurd (omega (arith, long, none, head_long v, length-append (traces_head v) []))
    by (stage.End v n) at =
        let long = ap length at.traces.is in
        absurd (omega (arith, long, none, head_long v, length-append (traces_head v ++ []) (codes "end\n"), length-append (traces_head v) []))

pub within_recorded : (text : List ℕ) (v : TracesVersion) (records : List Record) → AreTracesWithin text v records → All (λ r. IsRecorded r.event) records
within_recorded text v records within = λ k d less. written_recorded (slice_index_or records k d).event (within.traces.written k d less).1

-- the watches, once they were opened

module _ {W : Type 0} (R : W → TracesVersion → List Record → Type 0) where
  pub begun_before : (w : Option W) (known version : Option TracesVersion) (records : List Record) → is_some w ≡ true → HasBegun R w known records → ((v : TracesVersion) → known ≡ Some v → version ≡ Some v) → HasBegun R w version records
  begun_before None known version records there has kept = absurd (true≢false (sym there))
  begun_before (Some w) None version records there has kept = absurd has
  begun_before (Some w) (Some v) version records there has kept = subst (λ (o : Option TracesVersion). HasBegun R (Some w) o records) (sym (kept v refl)) has

  nothing_yet : (w : Option W) (known : Option TracesVersion) (records : List Record) → is_some w ≡ false → HasBegun R w known records → records ≡ []
  nothing_yet None None records none has = has
  nothing_yet None (Some v) records none has = absurd has
  nothing_yet (Some w) known records none has = absurd (true≢false none)

  pub not_yet_begun : (w : Option W) (known version : Option TracesVersion) (records : List Record) → is_some w ≡ false → version ≡ None → HasBegun R w known records → HasBegun R w version records
  not_yet_begun None None version records none unknown has = subst (λ (o : Option TracesVersion). HasBegun R None o records) (sym unknown) has
  not_yet_begun None (Some v) version records none unknown has = absurd has
  not_yet_begun (Some w) known version records none unknown has = absurd (true≢false none)

  pub begun_now : (old : Option W) (w : W) (known version : Option TracesVersion) (v : TracesVersion) (records : List Record) → is_some old ≡ false → version ≡ Some v → R w v [] → HasBegun R old known records → HasBegun R (Some w) version records
  begun_now old w known version v records none is begun has =
      let nothing = nothing_yet old known records none has in
      subst (λ (o : Option TracesVersion). HasBegun R (Some w) o records) (sym is) (subst (R w v) (sym nothing) begun)

  pub begun_nothing : (w : Option W) (version : Option TracesVersion) → w ≡ None → version ≡ None → HasBegun R w version []
  begun_nothing w version none unknown = subst (λ (x : Option W). HasBegun R x version []) (sym none) (subst (λ (o : Option TracesVersion). HasBegun R None o []) (sym unknown) refl)

  -- what was given was few enough
  pub go_on_none : (w : Option W) (version : Option TracesVersion) (before all : List Record) → w ≡ None → HasBegun R w version before → AreFew version all → HasBegun R w version all
  go_on_none w version before all none has few = subst (λ (x : Option W). HasBegun R x version all) (sym none) (by version (subst (λ (x : Option W). HasBegun R x version before) none has) few)
    where
      by : (o : Option TracesVersion) → HasBegun R None o before → AreFew o all → HasBegun R None o all
      by None has few = few
      by (Some v) has few = absurd has

  pub going_on : (w : W) (version : Option TracesVersion) (before : List Record) → HasBegun R (Some w) version before → (v : TracesVersion) × (version ≡ Some v) × R w v before
  going_on w None before has = absurd has
  going_on w (Some v) before has = (v, refl, has)

  -- all records were given, and the text ends
  pub ended : (w : W) (version : Option TracesVersion) (text : List ℕ) (records : List Record) → HasBegun R (Some w) version records → AreTracesOf version text records → (v : TracesVersion) × (records : List Record) × AreTracesWithin text v records × R w v records
  ended w None text records has are = absurd has
  ended w (Some v) text records has are = (v, records, are, has)

  pub ended_begun : (w : Option W) (version : Option TracesVersion) (text : List ℕ) (records : List Record) → w ≡ None → HasBegun R w version records → AreTracesOf version text records → ⊥
  ended_begun w version text records none has are = by version (subst (λ (x : Option W). HasBegun R x version records) none has) are
    where
      by : (o : Option TracesVersion) → HasBegun R None o records → AreTracesOf o text records → ⊥
      by None has are = are
      by (Some v) has are = has
