use Rattle.std.proofs.Common.{[], ◌⊎◌, take}
use Rattle.inline_model.specs.Drawn.{IsCopiedSilent, IsLink}
use Rattle.inline_model.specs.Growing.{Adds, HasOne}
use Rattle.inline_model.proofs.drawing.drawn.Given as goal

abbrev pub invariant-loop-item : goal.invariant-loop-item
invariant-loop-item l = Adds [] l.edges.items (HasOne (λ item e. IsCopiedSilent l.model item e.from e.to ⊎ IsLink l.model l.items item e.from e.to) (take l.item-index l.items))
