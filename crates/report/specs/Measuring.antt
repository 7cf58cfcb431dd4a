-- What is held while a trace is measured, and what it stands for.
use Rattle.std.specs.Prelude.{◌≡◌, ℕ, ◌+◌, ◌*◌, ◌≤◌, Bool, true, false, List, [], length}
use Rattle.dm_base.specs.declared.event.Event.{Event}
use Rattle.flow_model.specs.declared.which.Which.{Which}
use Rattle.flow_model.specs.Graph.{Graph}
use Rattle.flow_model.specs.Verdict.{IsAccepted}
use Rattle.report.specs.declared.precision.Precision.{Precision}
use Rattle.report.specs.Precision.{IsPrecision, precision_bound}
use Rattle.report.specs.Trials.{AreTrials}

-- the pool, the monitor, events for the edges of the model, what was counted so far, and whether each event so far was kept
pub record Measured (P M : Type 0) : Type 0 where
  pub pool : P
  pub monitor : M
  pub trials : List Event
  pub figures : Precision
  pub goes_on : Bool

-- where it goes on, the events are accepted and the monitor stands for them; else they are not accepted
abbrev pub HasComeTo : Bool → Type 0 → Which → Graph → List Event → Precision → Type 0
HasComeTo true Stands which g t p = Stands × IsAccepted which g precision_bound t × (p.prefixes ≡ length t + 1)
HasComeTo false Stands which g t p = IsAccepted which g precision_bound t → ⊥

-- of this model these events were measured
pub record HasMeasured {P M : Type 0} (IsPool : P → Graph → Type 0) (Stands : M → P → Graph → ℕ → List Event → Type 0) (AreNoted : P → Graph → List M → Type 0) (which : Which) (m : Measured P M) (g : Graph) (t : List Event) : Type 0 where
  pub pool : IsPool m.pool g
  pub notes : AreNoted m.pool g []
  pub trials : AreTrials g m.trials
  pub precision : IsPrecision which g t m.figures
  pub few : m.figures.sum ≤ 24 * m.figures.prefixes
  pub state : HasComeTo m.goes_on (Stands m.monitor m.pool g precision_bound t) which g t m.figures
