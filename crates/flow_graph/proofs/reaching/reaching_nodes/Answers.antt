use Rattle.flow_graph.proofs.CallersLemmas.{from_calls}
use Rattle.flow_graph.proofs.reaching.reaching_nodes.Goals as goal

pub returns : goal.returns
returns c = λ k. let all = c.in_ok-note_all.ensures k in let led = from_calls c.args.callers.now c.args.first c.in_ok-found.found.keys c.in_ok-found.ensures k in (λ has. led.0 (all.0 has), λ is. all.1 (led.1 is))
