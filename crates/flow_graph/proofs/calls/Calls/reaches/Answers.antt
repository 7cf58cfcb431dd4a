use Rattle.flow_graph.proofs.CallsLemmas.{reaches_answer}
use Rattle.flow_graph.proofs.calls.Calls.reaches.Goals as goal

pub returns : goal.returns
returns c = λ p are low. reaches_answer p c.args.self.now are c.args.f c.contains.result low c.contains.ensures
