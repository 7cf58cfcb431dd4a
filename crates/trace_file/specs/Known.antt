-- Which processes the records of interleaved traces make known.
use Rattle.std.specs.Prelude.{ℕ, pos, negsuc, List, [], ◌∷◌, flat_map, nat_eq, nat_lt, ◌&&◌, if◌then◌else◌}
use Rattle.std.specs.Ordering.{nat_cmp}
use Rattle.std.specs.FinSet.{FinSet, from_list, len}
use Rattle.dm_base.specs.declared.event.Event.{Event}
use Rattle.dm_base.specs.declared.event.Event.TheVariants.{Sys, Pre, Post}
use Rattle.trace_file.specs.declared.record.Record.{Record}
use Rattle.trace_file.specs.declared.version.TracesVersion.{TracesVersion}
use Rattle.trace_file.specs.declared.version.TracesVersion.TheVariants.{One, Two}

-- the child of a `fork`, system call number 22, whose result is from 1 to 4,294,967,295
abbrev pub child_of : Event → List ℕ
child_of (Sys name arguments (pos n)) = if nat_eq name 22 && nat_lt 0 n && nat_lt n 4294967296 then n ∷ [] else []
child_of (Sys name arguments (negsuc n)) = []
child_of (Pre site) = []
child_of (Post site) = []

-- the processes that a record makes known: its own and, in version 2, the child of a fork
abbrev pub made_known : TracesVersion → Record → List ℕ
made_known One r = r.pid ∷ []
made_known Two r = r.pid ∷ child_of r.event

-- the processes that are known after the records
abbrev pub known : TracesVersion → List Record → FinSet nat_cmp
known version records = from_list (flat_map (made_known version) records)

-- how many they are
abbrev pub known_count : TracesVersion → List Record → ℕ
known_count version records = len (known version records)
