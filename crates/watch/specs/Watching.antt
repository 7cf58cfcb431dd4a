-- The records that a watch stands for, and what its pool holds after a sweep.
use Rattle.std.specs.Prelude.{◌≡◌, ◌≤◌, ◌↔◌, ℕ, ◌+◌, ◌<◌, ◌^◌, true, nat_eq, List, [], ◌∷◌, ◌++◌, Contains, Option, Some, None, length}
use Rattle.std.specs.Option.{option_map}
use Rattle.flow_model.specs.declared.monitor.Monitor as monitor
use Rattle.flow_model.specs.Graph.{Graph}
use Rattle.flow_model.specs.Verdict.{IsAccepted}
use Rattle.indexmap.specs.IndexMap.{get}
use Rattle.trace_file.specs.declared.record.Record.{Record}
use Rattle.trace_file.specs.declared.version.TracesVersion.{TracesVersion}
use Rattle.watch.specs.declared.process.Process.{Process}
use Rattle.watch.specs.declared.watch.Watch.{Watch}
use Rattle.watch.specs.Own.{own, firsts}
use Rattle.watch.specs.Standing.{IsBound, AreWatched}

module _ {M P : Type 0} where
  -- the pool of the watch
  abbrev pub pool_of : Watch M P → P
  pool_of w = w.pool

  -- the monitor of a process that is known
  abbrev pub monitor_of : Watch M P → ℕ → Option M
  monitor_of w p = option_map (λ process. process.monitor) (get nat_eq w.table p)

module _ {M P : Type 0} (laws : monitor.Ghosts M P) where
  -- a watch of this model, bound and version stands for these records: each process has its own history among them
  pub record StandsFor (g : Graph) (bound : ℕ) (version : TracesVersion) (w : Watch M P) (records : List Record) : Type 0 where
    pub model : w.setting.model ≡ g
    pub limit : w.setting.bound ≡ bound
    pub form : w.setting.version ≡ version
    pub within : IsBound w.setting.bound
    pub watched : AreWatched laws w.setting w.table w.pool records
    pub order : w.firsts.keys ≡ firsts records
    pub count : w.steps ≡ length records

  -- these are the monitors of the known processes whose own history is accepted
  pub record AreAccepted (g : Graph) (bound : ℕ) (version : TracesVersion) (w : Watch M P) (records : List Record) (ms : List M) : Type 0 where
    pub sound : (m : M) → Contains ms m → (p : ℕ) × (monitor_of w p ≡ Some m) × IsAccepted laws.WHICH g bound (own version p records)
    pub complete : (p : ℕ) (m : M) → monitor_of w p ≡ Some m → IsAccepted laws.WHICH g bound (own version p records) → Contains ms m

  -- the pool holds exactly what the monitors of the known processes need whose own history is accepted
  abbrev pub HoldsNeeded : Graph → ℕ → TracesVersion → Watch M P → List Record → Type 0
  HoldsNeeded g bound version w records = (ms : List M) × AreAccepted g bound version w records ms × laws.needed w.pool g ms
