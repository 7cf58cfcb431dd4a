use Rattle.std.proofs.Common.{◌≡◌, take}
use Rattle.flow_model.specs.Growth.{Adds, HasOne}
use Rattle.inline_model.proofs.within.add_entries.Given as goal

abbrev pub invariant-loop-one : goal.invariant-loop-one
invariant-loop-one l = Adds l.fn.pool l.pool (HasOne (λ f b. f.entry ≡ b) (take l.one-index l.model.functions))
