use Rattle.stack_automaton.specs.contracts.place.FactPartialEq.TheImpl.{eq-value as fact_eq}
use Rattle.stack_automaton.proofs.FactLemmas.{fact_exact, fact_same, key_gained}
use Rattle.stack_automaton.proofs.fact_set.put.Goals as goal

pub returns-clause-added : goal.returns-clause-added
returns-clause-added c = key_gained fact_eq.it fact_exact fact_same c.args.index.now.keys c.insert.new.self.keys c.args.fact c.in_ok-insert.ensures.updates.0
