-- What the stores and sinks in memory are seen as.
use Rattle.std.specs.Prelude.{if◌then◌else◌, ℕ, ◌+◌, Bool, ◌||◌, nat_lt, Option, Some, None, List, ◌++◌, length, take, map, Vec, String, string_bytes, refl}
use Rattle.std.specs.declared.alloc.Global.{Global}
use Rattle.std.specs.Coded.{Coded, code_by, coded×, coded_ℕ, coded_list}
use Rattle.std.specs.FinMap.{from_entries, code}
use Rattle.dm_io.specs.Faults.{raised}
use Rattle.dm_io.specs.Plan.{CallPlan, plan_code, is_failing, after_call, after_fault}
use Rattle.dm_io.specs.Store.{Files}

-- the bytes of the name, and those of the file
abbrev pub entry_of : String Global × Vec ℕ Global → List ℕ × List ℕ
entry_of e = (string_bytes e.0, e.1.items)

-- the files by their names; of two with one name the first counts
abbrev pub files_of : List (String Global × Vec ℕ Global) → Files
files_of es = from_entries (map entry_of es)

-- a map of files is stored as the list of its entries
abbrev pub files_code : Coded Files
files_code = code (coded_list coded_ℕ) (coded_list coded_ℕ)

-- a store in memory: its files, and the plan of its calls
pub record StoreState : Type 0 where
  pub files : Files
  pub plan : CallPlan

-- a store is stored as the pair of its parts
abbrev pub store_code : Coded StoreState
store_code =
    code_by (Files × CallPlan) (coded× files_code plan_code) (λ s. (s.files, s.plan)) (λ p. record { files = p.0; plan = p.1 }) (λ _. refl)

-- the store after a read: only the calls and the faults have been counted
abbrev pub after_read : StoreState → StoreState
after_read s = record s { plan = if is_failing s.plan then after_fault s.plan else after_call s.plan }

-- a sink in memory: the bytes that it took, the plan of its calls, and how many calls found no memory
pub record SinkState : Type 0 where
  pub bytes : List ℕ
  pub plan : CallPlan
  pub starved : ℕ

-- the sink after a write that took these bytes
abbrev pub after_write : SinkState → List ℕ → SinkState
after_write s bytes = record s { bytes = s.bytes ++ bytes; plan = after_call s.plan }

-- the sink after a write that failed: by plan, or else for want of memory
abbrev pub after_failure : SinkState → SinkState
after_failure s = record s { plan = after_fault s.plan; starved = if is_failing s.plan then s.starved else raised s.starved }

-- a sink that took its memory at once: the room in bytes, the first bytes written up to the room, and whether more were written
pub record ReservedState : Type 0 where
  pub room : ℕ
  pub bytes : List ℕ
  pub is_over : Bool

-- all bytes written, which are told as long as there were no more than the room
abbrev pub told : ReservedState → Option (List ℕ)
told s = if s.is_over then None else Some s.bytes

-- the reserved sink after a write of these bytes
abbrev pub after_reserved : ReservedState → List ℕ → ReservedState
after_reserved s bytes = record s { bytes = take s.room (s.bytes ++ bytes); is_over = s.is_over || nat_lt s.room (length s.bytes + length bytes) }
