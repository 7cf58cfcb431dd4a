use Rattle.flow_graph.proofs.CallsLemmas.{taken_answer}
use Rattle.flow_graph.proofs.calls.Calls.address_taken.Goals as goal

pub returns : goal.returns
returns c = λ p are. taken_answer p c.args.self.now are c.args.f c.contains.result c.contains.ensures
