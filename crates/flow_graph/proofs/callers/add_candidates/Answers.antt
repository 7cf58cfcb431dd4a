use Rattle.std.proofs.Common.{length, get_or, ◌∙◌, refl, subst}
use Rattle.dm_base.specs.Adding.{Gains}
use Rattle.flow_graph.specs.Callers.{HasCaller, IsCandidate}
use Rattle.std.proofs.lemmas.List.{get_or_default}
use Rattle.dm_base.proofs.AddingLemmas.{gains_init, gains_step, gains_end}
use Rattle.flow_graph.proofs.callers.add_candidates.Goals as goal

pub loop-f-init : goal.loop-f-init
loop-f-init c = record {
  many = refl;
  added = gains_init (HasCaller c.args.callers.now.items) (λ f e. IsCandidate (length c.args.callers.now.items) c.args.by f e);
}

pub loop-f-preserved : goal.loop-f-preserved
loop-f-preserved c = let f = get_or c.args.functions.now c.loop-f.f-index 0 in record {
  many = c.in_ok-add_caller.ensures.length ∙ c.loop-f.invariant.many;
  added = gains_step (HasCaller c.args.callers.now.items) (HasCaller c.loop-f.callers.items) (HasCaller c.add_caller.new.callers.items) (λ f e. IsCandidate (length c.args.callers.now.items) c.args.by f e) c.args.functions.now c.loop-f.f-index f c.loop-f-test.true (get_or_default c.args.functions.now c.loop-f.f-index 0 f c.loop-f-test.true) c.loop-f.invariant.added
      (subst (λ k. Gains (HasCaller c.loop-f.callers.items) (HasCaller c.add_caller.new.callers.items) (IsCandidate k c.args.by f)) c.loop-f.invariant.many c.in_ok-add_caller.ensures.added);
}

pub returns-clause-added : goal.returns-clause-added
returns-clause-added c = gains_end (HasCaller c.args.callers.now.items) (HasCaller c.loop-f.callers.items) (λ f e. IsCandidate (length c.args.callers.now.items) c.args.by f e) c.args.functions.now c.loop-f.f-index c.loop-f-test.false c.loop-f.invariant.added
