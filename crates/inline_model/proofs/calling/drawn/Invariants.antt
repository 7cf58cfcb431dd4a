use Rattle.std.proofs.Common.{[], take}
use Rattle.inline_model.specs.Drawn.{IsCopiedSys}
use Rattle.inline_model.specs.Growing.{Adds, HasOne}
use Rattle.inline_model.proofs.calling.drawn.Given as goal

abbrev pub invariant-loop-item : goal.invariant-loop-item
invariant-loop-item l = Adds [] l.edges.items (HasOne (λ item e. IsCopiedSys l.model item e.from e.name e.args e.to) (take l.item-index l.items))
