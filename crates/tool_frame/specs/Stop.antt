-- How a command ends: the statuses of a text that was made whole, and why nothing was written, with the status, the line on err, and the cause.
use Rattle.std.specs.Prelude.{◌≡◌, ◌⊎◌, ℕ, List, codes}
use Rattle.dm_base.specs.declared.verdict.Status.{Status}
use Rattle.dm_base.specs.declared.verdict.Status.TheVariants as statuses
use Rattle.dm_io.specs.Faults.{Rose}
use Rattle.dm_io.specs.declared.whole.ReadError.{ReadError}
use Rattle.dm_io.specs.declared.whole.ReadError.TheVariants as errors
use Rattle.tool_frame.specs.declared.stop.Stop.{Stop}
use Rattle.tool_frame.specs.declared.stop.Stop.TheVariants as stops

-- the work was done: some text was written whole
abbrev pub IsFinished : Status → Type 0
IsFinished status = (status ≡ statuses.Done) ⊎ ((status ≡ statuses.Rejected) ⊎ (status ≡ statuses.Bound))

-- the status with which the tool ends then
abbrev pub status_of_stop : Stop → Status
status_of_stop stops.Usage = statuses.Usage
status_of_stop (stops.Source line) = statuses.SourceRefused
status_of_stop (stops.Model line) = statuses.ModelRefused
status_of_stop (stops.Record line) = statuses.RecordRefused
status_of_stop stops.Read = statuses.ReadFault
status_of_stop stops.Write = statuses.WriteFault
status_of_stop stops.OutOfMemory = statuses.OutOfMemory

-- the line that is written on err then
abbrev pub line_of : Stop → List ℕ
line_of stops.Usage = codes "usage\n"
line_of (stops.Source line) = line.items
line_of (stops.Model line) = line.items
line_of (stops.Record line) = line.items
line_of stops.Read = codes "read fault\n"
line_of stops.Write = codes "write fault\n"
line_of stops.OutOfMemory = codes "out of memory\n"

-- memory was refused
abbrev pub no_memory : Stop
no_memory = stops.OutOfMemory

-- the stop of a file that was not read
abbrev pub stop_of_read : ReadError → Stop
stop_of_read errors.OutOfMemory = stops.OutOfMemory
stop_of_read errors.Fault = stops.Read

-- why the work of a command stopped before anything was written, by which files it refuses, whether one is lacking, and the
-- store's count before and after
abbrev pub Stops : Stop → (Status → List ℕ → Type 0) → Type 0 → ℕ → ℕ → Type 0
Stops stops.Usage Refused Lacking before after = ⊥
Stops (stops.Source line) Refused Lacking before after = Refused statuses.SourceRefused line.items
Stops (stops.Model line) Refused Lacking before after = Refused statuses.ModelRefused line.items
Stops (stops.Record line) Refused Lacking before after = Refused statuses.RecordRefused line.items
Stops stops.Read Refused Lacking before after = Rose before after ⊎ Lacking
Stops stops.Write Refused Lacking before after = ⊥
Stops stops.OutOfMemory Refused Lacking before after = Unit {0}
