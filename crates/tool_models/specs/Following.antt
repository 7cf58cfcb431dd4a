-- For private contracts and proofs alone: what watches that follow a file of interleaved traces have come to.
use Rattle.std.specs.Prelude.{◌≡◌, ◌≤◌, ℕ, List, [], Option, None, Some, length}
use Rattle.trace_file.specs.declared.record.Record.{Record}
use Rattle.trace_file.specs.declared.traces_place.TracesPlace.{TracesPlace}
use Rattle.trace_file.specs.declared.version.TracesVersion.{TracesVersion}
use Rattle.trace_file.specs.Held.{Held}
use Rattle.trace_file.specs.Known.{known_count}
use Rattle.trace_file.specs.Trace.{most}
use Rattle.trace_file.specs.Traces.{most_processes}
use Rattle.trace_file.specs.TracesReading.{StandForTraces, traces_version}

-- the watches were opened once the version was known, and were given the records, of which there are none before
abbrev pub HasBegun : {W : Type 0} → (W → TracesVersion → List Record → Type 0) → Option W → Option TracesVersion → List Record → Type 0
HasBegun Watched None None records = records ≡ []
HasBegun Watched None (Some version) records = ⊥
HasBegun Watched (Some w) None records = ⊥
HasBegun Watched (Some w) (Some version) records = Watched w version records

-- all records so far are few enough for watches to be given them
abbrev pub AreFew : Option TracesVersion → List Record → Type 0
AreFew None records = records ≡ []
AreFew (Some version) records = (length records ≤ most) × (known_count version records ≤ most_processes)

-- the reader was given the text, and the records that it gave were followed
pub record AreOpen (reader : Held TracesPlace) (Followed : Option TracesVersion → List Record → Type 0) (text : List ℕ) : Type 0 where
  pub records : List Record
  pub stand : StandForTraces reader text records
  pub followed : Followed (traces_version reader) records
