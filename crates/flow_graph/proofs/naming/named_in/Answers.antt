use Rattle.std.proofs.Common.{◌≡◌, [], Contains}
use Rattle.c_meaning.specs.Mentions.{Named}
use Rattle.flow_graph.specs.Saying.{mention_of}
use Rattle.dm_base.proofs.AddingLemmas.{gains_step, gains_end}
use Rattle.flow_graph.proofs.NamingLemmas.{named_all}
use Rattle.flow_graph.proofs.naming.named_in.Goals as goal

pub loop-m-preserved : goal.loop-m-preserved
loop-m-preserved c = gains_step (Contains []) (Contains c.loop-m.named.keys) (Contains c.note_name.new.named.keys) (λ m g. mention_of m ≡ Named g) c.args.ms.now c.loop-m.m-index c.m-item.result c.loop-m-test.true c.m-item.is c.loop-m.invariant c.in_ok-note_name.ensures

pub returns : goal.returns
returns c = named_all c.args.ms.now c.loop-m.named.keys (gains_end (Contains []) (Contains c.loop-m.named.keys) (λ m g. mention_of m ≡ Named g) c.args.ms.now c.loop-m.m-index c.loop-m-test.false c.loop-m.invariant)
