use Rattle.flow_graph.proofs.CallersLemmas.{none_pushed, pushed_many}
use Rattle.flow_graph.proofs.callers.no_callers.Goals as goal

pub loop-i-preserved : goal.loop-i-preserved
loop-i-preserved c = record {
  many = pushed_many c.loop-i.callers.items c.push.new.self.items c.new.result c.loop-i._i c.in_ok-push.ensures.items c.loop-i.invariant.many;
  none = none_pushed c.loop-i.callers.items c.push.new.self.items c.new.result c.in_ok-push.ensures.items c.new.ensures.items c.loop-i.invariant.none;
}
