use Rattle.std.proofs.Common.{◌≡◌, ◌⊎◌, ◌↔◌, sym, subst}
use Rattle.dm_sets.specs.Nodes.{Nodes, Has}
use Rattle.expected_events.proofs.StandingLemmas.{marked_room}
use Rattle.expected_events.proofs.standing.mark.Goals as goal

pub returns-clause-marked : goal.returns-clause-marked
returns-clause-marked c = λ a _. subst (λ (s : Nodes). Has s a ↔ (Has c.args.at.now a ⊎ (a ≡ c.args.node))) (sym c.insert.ensures.added) (marked_room c.args.at.now c.args.node a)
