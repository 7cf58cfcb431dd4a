use Rattle.std.proofs.Common.{ap}
use Rattle.flow_graph.specs.Saying.{mention_of}
use Rattle.flow_graph.proofs.NamingLemmas.{gains_name}
use Rattle.std.proofs.lemmas.Result.{on_ok_weaker}
use Rattle.flow_graph.proofs.naming.note_name.Goals as goal

pub returns-in-Named : goal.returns-in-Named
returns-in-Named c = on_ok_weaker c.note.result (gains_name c.args.named.now.keys c.note.new.named.keys (mention_of c.args.m.now) c.in-Named.f (ap mention_of c.in-Named.is)) c.note.ensures
