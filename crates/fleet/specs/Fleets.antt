-- What a fleet stands for: its groups, and its processes with how often each was advanced.
use Rattle.std.specs.Prelude.{◌≡◌, ◌≢◌, ℕ, ◌≤◌, nat_eq, List, [], ◌∷◌, All, AllPairs, Contains, Option, Some, length, map, slice_get, if◌then◌else◌}
use Rattle.std.specs.List.{AllZip}
use Rattle.flow_model.specs.declared.monitor.Monitor as monitor
use Rattle.flow_model.specs.Rules.{IsValid}
use Rattle.trace_file.specs.declared.record.Record.{Record}
use Rattle.trace_file.specs.declared.version.TracesVersion.TheVariants.{One}
use Rattle.watch.specs.declared.watch.Watch.{Watch}
use Rattle.watch.specs.Own.{record_of}
use Rattle.watch.specs.Watching.{StandsFor as WatchStandsFor}
use Rattle.fleet.specs.declared.advance.Advance.{Advance}
use Rattle.fleet.specs.declared.advance.Advance.TheVariants.{Made, Rejected, Bound, Ended}
use Rattle.fleet.specs.declared.fleet.Fleet.{Fleet}
use Rattle.fleet.specs.declared.process.Process.{Process}
use Rattle.fleet.specs.declared.standing.Standing.{Standing}
use Rattle.fleet.specs.declared.standing.Standing.TheVariants as standings
use Rattle.fleet.specs.Going.{IsAt}
use Rattle.fleet.specs.Members.{Group, Member, one_more, refused_to}

-- the numbers of the processes
abbrev pub pids : List Member → List ℕ
pids members = map (λ m. m.pid) members

-- the process with this number was advanced, and no other
abbrev pub advanced : ℕ → List Member → List Member
advanced pid members = map (λ m. if nat_eq m.pid pid then one_more m else m) members

-- memory was refused to the process with this number
abbrev pub failed : ℕ → List Member → List Member
failed pid members = map (λ m. if nat_eq m.pid pid then refused_to m else m) members

-- the records that an advance adds to those of the process's group, by what the process had come to before it
abbrev pub added : ℕ → Standing → Advance → List Record
added pid (standings.Open n) (Made e) = record_of pid e ∷ []
added pid (standings.Open n) (Rejected e) = record_of pid e ∷ []
added pid (standings.Open n) (Bound e) = record_of pid e ∷ []
added pid (standings.Open n) (Ended outcome) = []
added pid (standings.Ended n outcome) answer = []
added pid (standings.Rejected m e) answer = []
added pid (standings.Bound m e) answer = []

module _ {M P : Type 0} where
  -- the watch of a group
  abbrev pub watch_of : Fleet M P → ℕ → Option (Watch M P)
  watch_of fleet group = slice_get fleet.watches.items group

  -- how many steps were taken
  abbrev pub steps_of : Fleet M P → ℕ
  steps_of fleet = fleet.taken

-- a group, and the records of its processes so far
pub record Judged : Type 0 where
  pub group : Group
  pub records : List Record

module _ {M P : Type 0} (laws : monitor.Ghosts M P) where
  -- the watch judges the group, whose records are of these processes and no more than so many
  pub record Watches (numbers : List ℕ) (most : ℕ) (w : Watch M P) (j : Judged) : Type 0 where
    pub valid : IsValid j.group.model
    pub stands : WatchStandsFor laws j.group.model j.group.bound One w j.records
    pub known : All (λ r. Contains numbers r.pid) j.records
    pub few : length j.records ≤ most

  -- the process is the member, which its group judges
  pub record IsMember (judged : List Judged) (p : Process) (m : Member) : Type 0 where
    pub by : Judged
    pub there : slice_get judged m.group ≡ Some by
    pub at : IsAt laws.WHICH by.group by.records p m

  -- the fleet has these groups and processes
  pub record StandsFor (fleet : Fleet M P) (groups : List Group) (members : List Member) : Type 0 where
    pub judged : List Judged
    pub groups_are : map (λ j. j.group) judged ≡ groups
    pub watches : AllZip (Watches (pids members) fleet.taken) fleet.watches.items judged
    pub members_are : AllZip (IsMember judged) fleet.processes.items members
    pub differ : AllPairs (λ a b. a ≢ b) (pids members)
    pub few : length members ≤ 64
    pub narrow : length groups ≤ 64
