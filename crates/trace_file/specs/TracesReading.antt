-- What a reader of interleaved traces stands for. Of `StandForTraces` no more has to be known than the clauses of `TracesReader` say.
use Rattle.std.specs.Prelude.{◌≡◌, ◌⊎◌, ℕ, ◌+◌, ◌<◌, ◌≤◌, List, [], ◌∷◌, ◌++◌, All, Option, None, Some, length, flat_map, codes}
use Rattle.trace_file.specs.declared.record.Record.{Record}
use Rattle.trace_file.specs.declared.traces_place.TracesPlace.{TracesPlace}
use Rattle.trace_file.specs.declared.traces_place.TracesStage.{TracesStage}
use Rattle.trace_file.specs.declared.traces_place.TracesStage.TheVariants as stage
use Rattle.trace_file.specs.declared.version.TracesVersion.{TracesVersion}
use Rattle.trace_file.specs.Known.{made_known, known_count}
use Rattle.trace_file.specs.Lines.{record_line, IsWrittenRecord}
use Rattle.trace_file.specs.Held.{Held, StandsFor}
use Rattle.trace_file.specs.Processes.{AreKnown}
use Rattle.trace_file.specs.Reached.{IsReached}
use Rattle.trace_file.specs.Trace.{most}
use Rattle.trace_file.specs.Traces.{most_processes, records_text, AreTraces, AreFormedTraces, HasTooMuch, HasOtherTracesVersion}

-- the lines of some records, and the end line
abbrev pub AreRecordsAndEnd : List ℕ → Type 0
AreRecordsAndEnd text = (records : List Record) × All IsWrittenRecord records × (text ≡ flat_map record_line records ++ codes "end\n")

-- after these records, this one is one too many, or makes one process too many known
abbrev pub PassesHere : TracesVersion → List Record → Record → Type 0
PassesHere version before last = (length before ≡ most) ⊎ ((length before < most) × (most_processes < known_count version (before ++ last ∷ [])))

-- after some records, those lines stand first of which the last passes a limit
abbrev pub BeginsTooMuch : TracesVersion → List Record → List ℕ → Type 0
BeginsTooMuch version records text = (more : List Record) × (last : Record) × (rest : List ℕ) × All IsWrittenRecord (more ++ last ∷ []) × PassesHere version (records ++ more) last × (text ≡ flat_map record_line (more ++ last ∷ []) ++ rest)

-- the first line and those of n records were read
pub record AreRecordsRead (version : TracesVersion) (n : ℕ) (lines : List ℕ) (records : List Record) : Type 0 where
  pub count : n ≡ length records
  pub few : length records ≤ most
  pub known : known_count version records ≤ most_processes
  pub written : All IsWrittenRecord records
  pub is : lines ≡ records_text version records
  pub reached : IsReached AreFormedTraces HasTooMuch HasOtherTracesVersion AreRecordsAndEnd (BeginsTooMuch version records) (n + 1) lines

-- the end line was read too
pub record AreTracesRead (version : TracesVersion) (n : ℕ) (lines : List ℕ) (records : List Record) : Type 0 where
  pub count : n ≡ length records
  pub few : length records ≤ most
  pub known : known_count version records ≤ most_processes
  pub traces : AreTraces lines version records
  pub reached : IsReached AreFormedTraces HasTooMuch HasOtherTracesVersion (λ rest. rest ≡ []) (λ rest. ⊥) (n + 2) lines

-- the lines before the place are these, and these are their records
abbrev pub ReachesStage : TracesStage → List ℕ → List ℕ → List Record → Type 0
ReachesStage stage.Start known lines records = (known ≡ []) × (lines ≡ []) × (records ≡ [])
ReachesStage (stage.Records version n) known lines records = AreKnown known (flat_map (made_known version) records) × AreRecordsRead version n lines records
ReachesStage (stage.End version n) known lines records = AreTracesRead version n lines records

abbrev pub ReachesTraces : TracesPlace → List ℕ → List Record → Type 0
ReachesTraces at lines records = ReachesStage at.stage at.known lines records

-- the version that the first line had
abbrev pub stage_version : TracesStage → Option TracesVersion
stage_version stage.Start = None
stage_version (stage.Records version n) = Some version
stage_version (stage.End version n) = Some version

-- the reader was given this text, whose lines so far are of these records, and didn't refuse it
abbrev pub StandForTraces : Held TracesPlace → List ℕ → List Record → Type 0
StandForTraces = StandsFor ReachesTraces

-- the version that the reader has read
abbrev pub traces_version : Held TracesPlace → Option TracesVersion
traces_version held = stage_version held.place.stage
