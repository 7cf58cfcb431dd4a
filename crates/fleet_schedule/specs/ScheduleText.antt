-- The file of a schedule, and why a text is none.
use Rattle.std.specs.Prelude.{◌≡◌, ◌≢◌, ◌⊎◌, ℕ, ◌<◌, ◌≤◌, ◌^◌, List, [], ◌++◌, All, AllPairs, Contains, length, map, flat_map, codes}
use Rattle.line_text.specs.Files.{IsProperPrefix, IsBadLine, HasOtherVersion}
use Rattle.line_text.specs.Words.{ended_word, number_word}
use Rattle.fleet_schedule.specs.declared.error.ScheduleError.{ScheduleError}
use Rattle.fleet_schedule.specs.declared.error.ScheduleError.TheVariants.{OutOfMemory, BadLine, NoEnd, TooLong, Version}
use Rattle.fleet_schedule.specs.declared.line.Line.{Line}
use Rattle.fleet_schedule.specs.Plan.{Plan}

-- the greatest length of a schedule, in bytes: 16 MiB
abbrev pub longest : ℕ
longest = 16777216

-- the greatest number of processes
abbrev pub most_processes : ℕ
most_processes = 64

-- the greatest number of advances
abbrev pub most_advances : ℕ
most_advances = 1000000

abbrev pub IsNameByte : ℕ → Type 0
IsNameByte b = (33 ≤ b) × (b ≤ 126)

-- the name of a file in a schedule: 1 to 255 bytes from 33 to 126
pub record IsFileName (name : List ℕ) : Type 0 where
  pub some : name ≢ []
  pub short : length name ≤ 255
  pub bytes : All IsNameByte name

-- a process that a line may hold
pub record IsRightLine (l : Line) : Type 0 where
  pub pid : l.pid < 2 ^ 32
  pub file : IsFileName l.file
  pub model : IsFileName l.model
  pub results : IsFileName l.results
  pub turns : l.turns ≤ 1000000
  pub some : 1 ≤ l.bound
  pub bound : l.bound ≤ 65535

-- `p PID FILE MODEL RESULTS TURNS K`, and the line feed
abbrev pub process_line : Line → List ℕ
process_line l =
    codes "p " ++ (number_word 32 l.pid ++ (ended_word 32 l.file ++ (ended_word 32 l.model ++ (ended_word 32 l.results ++ (number_word 32 l.turns ++ number_word 10 l.bound)))))

-- `a PID`, and the line feed
abbrev pub advance_line : ℕ → List ℕ
advance_line pid = codes "a " ++ number_word 10 pid

abbrev pub schedule_head : List ℕ
schedule_head = codes "dyckmon-fleet 1\n"

abbrev pub processes_text : List Line → List ℕ
processes_text processes = flat_map process_line processes

abbrev pub order_text : List ℕ → List ℕ
order_text order = flat_map advance_line order

-- the first line, a line for each process, a line for each advance, and the end line
abbrev pub schedule_text : Plan → List ℕ
schedule_text s = schedule_head ++ (processes_text s.processes ++ (order_text s.order ++ codes "end\n"))

-- the numbers of the processes
abbrev pub pids : List Line → List ℕ
pids processes = map (λ l. l.pid) processes

-- the numbers of the processes differ, and only processes are advanced
pub record AreRight (processes : List Line) (order : List ℕ) : Type 0 where
  pub lines : All IsRightLine processes
  pub differ : AllPairs (λ a b. a ≢ b) (pids processes)
  pub named : All (Contains (pids processes)) order

-- the text is that of the schedule
pub record IsSchedule (text : List ℕ) (s : Plan) : Type 0 where
  pub right : AreRight s.processes s.order
  pub is : text ≡ schedule_text s

abbrev pub IsFormedSchedule : List ℕ → Type 0
IsFormedSchedule text = (s : Plan) × IsSchedule text s

-- no more processes and advances than may be
pub record AreWithin (s : Plan) : Type 0 where
  pub processes : length s.processes ≤ most_processes
  pub order : length s.order ≤ most_advances

-- a schedule within the limits
pub record IsScheduleWithin (text : List ℕ) (s : Plan) : Type 0 where
  pub is : IsSchedule text s
  pub few : AreWithin s
  pub short : length text ≤ longest

-- the lines of one process too many stand first, or those of one advance too many
pub record HasTooMany (text : List ℕ) : Type 0 where
  pub processes : List Line
  pub order : List ℕ
  pub rest : List ℕ
  pub right : AreRight processes order
  pub many : (most_processes < length processes) ⊎ (most_advances < length order)
  pub is : text ≡ schedule_head ++ (processes_text processes ++ (order_text order ++ rest))

abbrev pub HasOtherScheduleVersion : List ℕ → Type 0
HasOtherScheduleVersion text = HasOtherVersion (codes "dyckmon-fleet ") (λ n. n ≡ 1) text

-- why a text is refused: its length comes first, then another version, then the first line that shows that there are too many processes or advances or that is bad, then that it ends too early
abbrev pub IsScheduleRefusal : ScheduleError → List ℕ → Type 0
IsScheduleRefusal OutOfMemory text = Unit {0}
IsScheduleRefusal TooLong text = (longest < length text) ⊎ HasTooMany text
IsScheduleRefusal Version text = (length text ≤ longest) × HasOtherScheduleVersion text
IsScheduleRefusal (BadLine k) text = (length text ≤ longest) × (HasOtherScheduleVersion text → ⊥) × (HasTooMany text → ⊥) × IsBadLine IsFormedSchedule text k
IsScheduleRefusal NoEnd text = (length text ≤ longest) × (HasOtherScheduleVersion text → ⊥) × (HasTooMany text → ⊥) × IsProperPrefix IsFormedSchedule text
