-- What the processes of a table have come to.
use Rattle.std.specs.Prelude.{◌≡◌, ℕ, ◌<◌, ◌≤◌, ◌^◌, nat_eq, List, [], flat_map, Option, None, Some}
use Rattle.dm_base.specs.declared.event.Event.{Event}
use Rattle.flow_model.specs.declared.monitor.Monitor as monitor
use Rattle.flow_model.specs.Graph.{Graph}
use Rattle.indexmap.specs.IndexMap.{IndexMap, get, keys}
use Rattle.trace_file.specs.declared.record.Record.{Record}
use Rattle.trace_file.specs.Known.{made_known}
use Rattle.trace_file.specs.Processes.{AreKnown}
use Rattle.watch.specs.declared.process.Process.{Process}
use Rattle.watch.specs.declared.process.Setting.{Setting}
use Rattle.watch.specs.Own.{own}
use Rattle.watch.specs.Pasts.{IsPast}

-- a bound of the Dyck model
abbrev pub IsBound : ℕ → Type 0
IsBound k = (1 ≤ k) × (k < 2 ^ 16)

module _ {M P : Type 0} (laws : monitor.Ghosts M P) (g : Graph) where
  -- the process has this history
  pub record IsAt (bound : ℕ) (pool : P) (h : List Event) (process : Process M) : Type 0 where
    pub stands : laws.stands process.monitor pool g bound h
    pub past : IsPast laws.WHICH g bound h process.past

  -- a process that isn't known has the empty history
  abbrev pub HasHistory : ℕ → P → List Event → Option (Process M) → Type 0
  HasHistory bound pool h None = h ≡ []
  HasHistory bound pool h (Some process) = IsAt bound pool h process

-- the processes of the table have their own histories among the records
pub record AreWatched {M P S : Type 0} (laws : monitor.Ghosts M P) (setting : Setting) (table : IndexMap ℕ (Process M) S) (shared : P) (records : List Record) : Type 0 where
  pub pool : laws.is_pool shared setting.model
  pub notes : laws.noted shared setting.model []
  pub known : AreKnown (keys table) (flat_map (made_known setting.version) records)
  pub each : (p : ℕ) → HasHistory laws setting.model setting.bound shared (own setting.version p records) (get nat_eq table p)
