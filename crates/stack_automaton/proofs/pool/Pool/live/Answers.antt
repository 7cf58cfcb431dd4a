use Rattle.std.proofs.Common.{◌∙◌, ap}
use Rattle.std.specs.FinMap as map
use Rattle.stack_automaton.proofs.SeenLemmas.{look_len}
use Rattle.stack_automaton.proofs.pool.Pool.live.Goals as goal

pub returns : goal.returns
returns c = c.len.ensures ∙ look_len c.self.inside.states ∙ ap (λ p. map.len p.entries) c.self.view_is
