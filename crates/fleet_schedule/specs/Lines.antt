-- For private contracts and proofs alone: the lines of a schedule, which may follow which, and how each part of it is refused.
use Rattle.std.specs.Prelude.{◌≡◌, ℕ, ◌+◌, ◌<◌, ◌≤◌, ◌^◌, Bool, false, List, All, Contains, length, codes}
use Rattle.line_text.specs.declared.miss.Miss.{Miss}
use Rattle.line_text.specs.declared.miss.Miss.TheVariants as misses
use Rattle.line_text.specs.Files.{IsProperPrefix, IsBadLine, IsVersionLine}
use Rattle.line_text.specs.Reading.{Agree, IsCutShort}
use Rattle.fleet_schedule.specs.declared.error.ScheduleError.{ScheduleError}
use Rattle.fleet_schedule.specs.declared.error.ScheduleError.TheVariants.{OutOfMemory, BadLine, NoEnd, TooLong, Version}
use Rattle.fleet_schedule.specs.declared.line.Line.{Line}
use Rattle.fleet_schedule.specs.declared.line_reading.ScheduleLine.{ScheduleLine}
use Rattle.fleet_schedule.specs.declared.line_reading.ScheduleLine.TheVariants.{Process, Advance, End}
use Rattle.fleet_schedule.specs.ScheduleText.{IsNameByte, IsRightLine, process_line, advance_line, schedule_head, pids, IsFormedSchedule, HasTooMany}

-- the bytes with which the name of a file begins
pub record IsFileFront (text : List ℕ) : Type 0 where
  pub short : length text ≤ 255
  pub bytes : All IsNameByte text

-- a number that no process has
pub record IsFresh (processes : List Line) (n : ℕ) : Type 0 where
  pub small : n < 2 ^ 32
  pub new : Contains (pids processes) n → ⊥

-- the line of one process more
pub record IsNewLine (processes : List Line) (l : Line) : Type 0 where
  pub right : IsRightLine l
  pub fresh : IsFresh processes l.pid

-- a line after the first
abbrev pub schedule_line : ScheduleLine → List ℕ
schedule_line (Process l) = process_line l
schedule_line (Advance p) = advance_line p
schedule_line End = codes "end\n"

-- such a line may stand after those of the processes and, where it is so, of some advance
abbrev pub MayStand : List Line → Bool → ScheduleLine → Type 0
MayStand processes advancing (Process l) = (advancing ≡ false) × IsNewLine processes l
MayStand processes advancing (Advance p) = Contains (pids processes) p
MayStand processes advancing End = Unit {0}

-- the first line has the word, and the number of another version
abbrev pub HasOtherNumber : List ℕ → Type 0
HasOtherNumber line = (n : ℕ) × (n < 2 ^ 32) × (n ≡ 1 → ⊥) × IsVersionLine (codes "dyckmon-fleet ") n line

-- why the first line is refused
abbrev pub IsHeadRefusal : ScheduleError → List ℕ → Type 0
IsHeadRefusal OutOfMemory line = ⊥
IsHeadRefusal TooLong line = ⊥
IsHeadRefusal Version line = HasOtherNumber line
IsHeadRefusal (BadLine k) line = (k ≡ 1) × (HasOtherNumber line → ⊥) × (Agree schedule_head line → ⊥)
IsHeadRefusal NoEnd line = (HasOtherNumber line → ⊥) × IsCutShort {V = Unit {0}} (λ u. Unit {0}) (λ u. schedule_head) line

-- why a text with the right first line is refused for the lines after it
abbrev pub IsLinesRefusal : ScheduleError → List ℕ → Type 0
IsLinesRefusal OutOfMemory text = Unit {0}
IsLinesRefusal TooLong text = HasTooMany text
IsLinesRefusal Version text = ⊥
IsLinesRefusal (BadLine k) text = (HasTooMany text → ⊥) × IsBadLine IsFormedSchedule text k
IsLinesRefusal NoEnd text = (HasTooMany text → ⊥) × IsProperPrefix IsFormedSchedule text

-- the refusal of the first line
abbrev pub head_refusal_of : Miss → ScheduleError
head_refusal_of misses.OutOfMemory = OutOfMemory
head_refusal_of misses.Short = NoEnd
head_refusal_of misses.Wrong = BadLine 1

-- the refusal of the line after so many lines of processes and advances
abbrev pub refusal_of : Miss → ℕ → ScheduleError
refusal_of misses.OutOfMemory lines = OutOfMemory
refusal_of misses.Short lines = NoEnd
refusal_of misses.Wrong lines = BadLine (lines + 2)
