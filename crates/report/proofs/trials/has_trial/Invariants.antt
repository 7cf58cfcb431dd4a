use Rattle.std.proofs.Common.{ℕ, ◌<◌, slice_index_or}
use Rattle.dm_base.specs.declared.event.Event.{Event}
use Rattle.dm_base.specs.Fits.{Fits}
use Rattle.report.proofs.trials.has_trial.Given as goal

abbrev pub invariant-loop-event : goal.invariant-loop-event
invariant-loop-event l = (k : ℕ) (d : Event) → k < l.event-index → Fits l.edge.name l.edge.args (slice_index_or l.trials k d) → ⊥
