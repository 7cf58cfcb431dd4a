use Rattle.std.proofs.Common.{length, ◌∙◌, refl, subst}
use Rattle.flow_graph.specs.Saying.{mention_of}
use Rattle.flow_graph.specs.Types.{types_at}
use Rattle.dm_base.specs.Adding.{Gains}
use Rattle.flow_graph.specs.Callers.{HasCaller, IsCall}
use Rattle.dm_base.proofs.AddingLemmas.{gains_init, gains_step, gains_end}
use Rattle.flow_graph.proofs.callers.add_calls.Goals as goal

pub loop-m-init : goal.loop-m-init
loop-m-init c = record {
  many = refl;
  added = gains_init (HasCaller c.args.callers.now.items) (λ m e. IsCall (length c.args.callers.now.items) (types_at c.args.types.now) c.args.count c.args.by (mention_of m) e);
}

pub loop-m-preserved : goal.loop-m-preserved
loop-m-preserved c = record {
  many = c.in_ok-add_call.ensures.length ∙ c.loop-m.invariant.many;
  added = gains_step (HasCaller c.args.callers.now.items) (HasCaller c.loop-m.callers.items) (HasCaller c.add_call.new.callers.items) (λ m e. IsCall (length c.args.callers.now.items) (types_at c.args.types.now) c.args.count c.args.by (mention_of m) e) c.args.ms.now c.loop-m.m-index c.m-item.result c.loop-m-test.true c.m-item.is c.loop-m.invariant.added
      (subst (λ k. Gains (HasCaller c.loop-m.callers.items) (HasCaller c.add_call.new.callers.items) (IsCall k (types_at c.args.types.now) c.args.count c.args.by (mention_of c.m-item.result))) c.loop-m.invariant.many c.in_ok-add_call.ensures.added);
}

pub returns-clause-added : goal.returns-clause-added
returns-clause-added c = gains_end (HasCaller c.args.callers.now.items) (HasCaller c.loop-m.callers.items) (λ m e. IsCall (length c.args.callers.now.items) (types_at c.args.types.now) c.args.count c.args.by (mention_of m) e) c.args.ms.now c.loop-m.m-index c.loop-m-test.false c.loop-m.invariant.added
