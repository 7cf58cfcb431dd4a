-- For private contracts and proofs alone: what one call does to a pool, which child an event makes, and which monitors are marked.
use Rattle.std.specs.Prelude.{◌≡◌, ◌⊎◌, ℕ, true, false, nat_eq, cond, is_none, List, [], ◌∷◌, Option, None, Some, IsSome}
use Rattle.dm_base.specs.declared.event.Event.{Event}
use Rattle.std.specs.Option.{option_map_or}
use Rattle.dm_base.specs.declared.verdict.Verdict.{Verdict}
use Rattle.dm_base.specs.declared.verdict.Verdict.TheVariants.{Accepted}
use Rattle.flow_model.specs.declared.monitor.Monitor as monitor
use Rattle.flow_model.specs.Graph.{Graph}
use Rattle.indexmap.specs.IndexMap.{IndexMap, get}
use Rattle.trace_file.specs.declared.version.TracesVersion.{TracesVersion}
use Rattle.trace_file.specs.declared.version.TracesVersion.TheVariants.{Two}
use Rattle.trace_file.specs.Known.{child_of}
use Rattle.watch.specs.declared.past.Past.{Past}
use Rattle.watch.specs.declared.past.Refusal.{Refusal}
use Rattle.watch.specs.declared.process.Process.{Process}
use Rattle.watch.specs.Own.{is_among}

module _ {M P : Type 0} (laws : monitor.Ghosts M P) (g : Graph) where
  -- the pool stays the model's, each monitor stands for what it stood for, and no monitor is noted where none was
  pub record KeepsPool (old new : P) : Type 0 where
    pub pool : laws.is_pool old g → laws.is_pool new g
    pub others : (m : M) (k : ℕ) (h : List Event) → laws.stands m old g k h → laws.stands m new g k h
    pub notes : laws.noted old g [] → laws.noted new g []

-- the child that an event of a process makes, where it isn't known
abbrev pub IsNewborn : {X S : Type 0} → TracesVersion → IndexMap ℕ X S → ℕ → Event → Option ℕ → Type 0
IsNewborn version table p e (Some child) = (version ≡ Two) × (child_of e ≡ child ∷ []) × (nat_eq p child ≡ false) × (get nat_eq table child ≡ None)
IsNewborn version table p e None = (child : ℕ) → version ≡ Two → is_among (child_of e) child ≡ true → (nat_eq p child ≡ true) ⊎ IsSome (get nat_eq table child)

-- the monitors of the processes that were not refused
abbrev pub accepted_of : {M : Type 0} → List (Process M) → List M
accepted_of [] = []
accepted_of (process ∷ processes) = cond (is_none process.past.refusal) (process.monitor ∷ accepted_of processes) (accepted_of processes)

-- the verdict where so many events were kept, of this refusal if there is one
abbrev pub told : ℕ → Option Refusal → Verdict
told kept None = Accepted kept
told kept (Some refusal) = refusal.verdict

-- the verdict that is told of what is still at hand
abbrev pub verdict_of : Past → Verdict
verdict_of past = told past.kept past.refusal

-- the processes of these numbers that are known, with their verdicts
abbrev pub verdicts_told : {M S : Type 0} → IndexMap ℕ (Process M) S → List ℕ → List (ℕ × Verdict)
verdicts_told table [] = []
verdicts_told table (p ∷ ps) = option_map_or (λ process. (p, verdict_of process.past) ∷ verdicts_told table ps) (get nat_eq table p) (verdicts_told table ps)
