use Rattle.stack_automaton.specs.Seen.{edges_at}
use Rattle.stack_automaton.proofs.MonitorLemmas.{pool_of_grown}
use Rattle.stack_automaton.proofs.ResultLemmas.{ok_both}
use Rattle.stack_automaton.proofs.StandingLemmas.{key_stored}
use Rattle.stack_automaton.proofs.pool.Pool.arrive_anew.Goals as goal

pub settle-requires-clause-there : goal.settle-requires-clause-there
settle-requires-clause-there c = λ b q is. (c.requires.live b q is).0

pub returns-clause-pool : goal.returns-clause-pool
returns-clause-pool c = pool_of_grown c.args.self.now c.settle.new.self c.settle.ensures.grows c.settle.ensures.last c.args.model.now c.settle.ensures.remembered c.requires.pool

pub returns-clause-key : goal.returns-clause-key
returns-clause-key c =
    ok_both c.settle.result
    (λ key stored there. key_stored c.args.model.now (edges_at c.args.self.now) (edges_at c.settle.new.self) c.args.self.now.final key c.args.begin.keys c.requires.pool.pool.closed c.requires.pool.pool.empty c.settle.ensures.grows stored there c.requires.live)
    c.settle.ensures.stored c.settle.ensures.there
