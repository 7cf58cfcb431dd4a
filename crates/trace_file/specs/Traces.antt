-- The file of interleaved traces, and why a text is none.
use Rattle.std.specs.Prelude.{◌≡◌, ◌⊎◌, ℕ, ◌+◌, ◌<◌, ◌≤◌, List, [], ◌∷◌, ◌++◌, All, Contains, Option, None, Some, length, flat_map, codes}
use Rattle.line_text.specs.Files.{IsProperPrefix, IsBadLine, HasOtherVersion}
use Rattle.trace_file.specs.declared.error.TraceError.{TraceError}
use Rattle.trace_file.specs.declared.error.TraceError.TheVariants.{OutOfMemory, BadLine, NoEnd, TooLong, TooManyProcesses, Version}
use Rattle.trace_file.specs.declared.record.Record.{Record}
use Rattle.trace_file.specs.declared.version.TracesVersion.{TracesVersion}
use Rattle.trace_file.specs.declared.version.TracesVersion.TheVariants.{One, Two}
use Rattle.trace_file.specs.Known.{known_count}
use Rattle.trace_file.specs.Lines.{record_line, IsWrittenRecord}
use Rattle.trace_file.specs.Trace.{longest, most}

-- the greatest number of known processes
abbrev pub most_processes : ℕ
most_processes = 4096

abbrev pub traces_head : TracesVersion → List ℕ
traces_head One = codes "dyckmon-traces 1\n"
traces_head Two = codes "dyckmon-traces 2\n"

-- the first line and a line for each record
abbrev pub records_text : TracesVersion → List Record → List ℕ
records_text version records = traces_head version ++ flat_map record_line records

-- the first line, a line for each record, and the end line
abbrev pub traces_text : TracesVersion → List Record → List ℕ
traces_text version records = records_text version records ++ codes "end\n"

-- the text is that of the records
pub record AreTraces (text : List ℕ) (version : TracesVersion) (records : List Record) : Type 0 where
  pub written : All IsWrittenRecord records
  pub is : text ≡ traces_text version records

abbrev pub AreFormedTraces : List ℕ → Type 0
AreFormedTraces text = (version : TracesVersion) × (records : List Record) × AreTraces text version records

-- traces within the limits
pub record AreTracesWithin (text : List ℕ) (version : TracesVersion) (records : List Record) : Type 0 where
  pub traces : AreTraces text version records
  pub few : length records ≤ most
  pub known : known_count version records ≤ most_processes
  pub short : length text ≤ longest

-- the lines of these records, and that of one more, stand first; until then no limit is passed
pub record PassesALimit (text : List ℕ) (version : TracesVersion) (before : List Record) (last : Record) : Type 0 where
  pub rest : List ℕ
  pub written : All IsWrittenRecord (before ++ last ∷ [])
  pub is : text ≡ records_text version (before ++ last ∷ []) ++ rest
  pub few : length before ≤ most
  pub known : known_count version before ≤ most_processes

-- the last of them is one record too many
abbrev pub HasTooManyRecords : List ℕ → Type 0
HasTooManyRecords text = (version : TracesVersion) × (before : List Record) × (last : Record) × PassesALimit text version before last × (length before ≡ most)

-- the last of them, on line k, makes one process too many known, and is not one record too many
abbrev pub HasTooManyProcesses : List ℕ → ℕ → Type 0
HasTooManyProcesses text k = (version : TracesVersion) × (before : List Record) × (last : Record) × PassesALimit text version before last × (length before < most) × (most_processes < known_count version (before ++ last ∷ [])) × (k ≡ length before + 2)

-- some line shows that there are too many records or processes
abbrev pub HasTooMuch : List ℕ → Type 0
HasTooMuch text = HasTooManyRecords text ⊎ ((k : ℕ) × HasTooManyProcesses text k)

abbrev pub HasOtherTracesVersion : List ℕ → Type 0
HasOtherTracesVersion text = HasOtherVersion (codes "dyckmon-traces ") (λ n. (n ≡ 1) ⊎ (n ≡ 2)) text

-- why a text is refused: its length comes first, then another version, then the first line that shows too many records or processes or that is bad, then that it ends too early
abbrev pub IsTracesRefusal : TraceError → List ℕ → Type 0
IsTracesRefusal OutOfMemory text = Unit {0}
IsTracesRefusal TooLong text = (longest < length text) ⊎ HasTooManyRecords text
IsTracesRefusal Version text = (length text ≤ longest) × HasOtherTracesVersion text
IsTracesRefusal (BadLine k) text = (length text ≤ longest) × (HasOtherTracesVersion text → ⊥) × (HasTooMuch text → ⊥) × IsBadLine AreFormedTraces text k
IsTracesRefusal (TooManyProcesses k) text = (length text ≤ longest) × HasTooManyProcesses text k
IsTracesRefusal NoEnd text = (length text ≤ longest) × (HasTooMuch text → ⊥) × IsProperPrefix AreFormedTraces text

-- however the text goes on within the longest length, this is why it is refused
abbrev pub AreTracesShown : TraceError → List ℕ → Type 0
AreTracesShown error text = (more : List ℕ) → length (text ++ more) ≤ longest → IsTracesRefusal error (text ++ more)

-- the text is that of the records, in this version
abbrev pub AreTracesOf : Option TracesVersion → List ℕ → List Record → Type 0
AreTracesOf None text records = ⊥
AreTracesOf (Some version) text records = AreTracesWithin text version records

-- the first line is that of the version; with None the text has no line feed yet
abbrev pub BeginsWith : Option TracesVersion → List ℕ → Type 0
BeginsWith None text = Contains text 10 → ⊥
BeginsWith (Some version) text = (rest : List ℕ) × (text ≡ traces_head version ++ rest)
