-- The own history of each process among the records of interleaved traces.
use Rattle.std.specs.Prelude.{ℕ, Bool, not, ◌&&◌, List, [], ◌∷◌, ◌++◌, map, filter, reverse, nat_eq, if◌then◌else◌}
use Rattle.std.specs.List.{list_any}
use Rattle.dm_base.specs.declared.event.Event.{Event}
use Rattle.trace_file.specs.declared.record.Record.{Record}
use Rattle.trace_file.specs.declared.version.TracesVersion.{TracesVersion}
use Rattle.trace_file.specs.declared.version.TracesVersion.TheVariants.{One, Two}
use Rattle.trace_file.specs.Known.{child_of, made_known}

-- the number is among these
abbrev pub is_among : List ℕ → ℕ → Bool
is_among numbers p = list_any (nat_eq p) numbers

-- the process is known after the records: it has one of its own or, in version 2, a fork names it
abbrev pub is_known : TracesVersion → List Record → ℕ → Bool
is_known version records p = list_any (λ r. is_among (made_known version r) p) records

-- the process has a record of its own
abbrev pub has_record : List Record → ℕ → Bool
has_record records p = list_any (λ r. nat_eq p r.pid) records

-- the record of an event of a process
abbrev pub record_of : ℕ → Event → Record
record_of p e = record { pid = p; event = e }

-- in version 2 the record makes the process, which isn't known after the records before it
abbrev pub is_born : List Record → Record → ℕ → Bool
is_born older r p = is_among (child_of r.event) p && not (is_known Two older p)

-- the history of a process in version 2, of the records with the newest first: a record of its own adds the event, the fork that made it gives it the parent's history with the fork, and no other record changes it
unfoldable pub own_forked : ℕ → List Record → List Event
own_forked p [] = []
own_forked p (r ∷ older) =
    if nat_eq r.pid p then own_forked p older ++ r.event ∷ []
    else (if is_born older r p then own_forked r.pid older ++ r.event ∷ [] else own_forked p older)

-- the own history of a process: in version 1 the events of its records in order, in version 2 after those that it has from its parent
abbrev pub own : TracesVersion → ℕ → List Record → List Event
own One p records = map (λ r. r.event) (filter (λ r. nat_eq r.pid p) records)
own Two p records = own_forked p (reverse records)

-- the processes that have a record, each once, in the order of their first records
abbrev pub firsts : List Record → List ℕ
firsts [] = []
firsts (r ∷ later) = r.pid ∷ filter (λ p. not (nat_eq r.pid p)) (firsts later)
