use Rattle.flow_graph.proofs.Members.{number_gained}
use Rattle.flow_graph.proofs.naming.note.Goals as goal

pub returns : goal.returns
returns c = number_gained c.args.named.now.keys c.insert.new.self.keys c.args.f c.in_ok-insert.ensures.updates.0
