use Rattle.stack_automaton.proofs.FactLemmas.{edges_in_order}
use Rattle.stack_automaton.proofs.edges.put_in_order.Goals as goal

pub returns : goal.returns
returns c = edges_in_order c.args.edges.now.items c.sort_unstable.new.self.items c.dedup.new.self.items c.sort_unstable.ensures.permutation c.dedup.ensures.filtered
