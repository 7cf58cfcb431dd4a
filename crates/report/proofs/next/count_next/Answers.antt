use Rattle.std.proofs.Common.{◌≡◌, subst, arith}
use Rattle.report.specs.Precision.{IsNumberOf}
use Rattle.report.specs.Trials.{Comes}
use Rattle.report.proofs.NextLemmas.{number_counted, number_zero, next_is, keeps_then}
use Rattle.report.proofs.next.count_next.Goals as goal

pub loop-number-preserved : goal.loop-number-preserved
loop-number-preserved g c = record {
  frame = keeps_then g.M.Monitor.is_pool g.M.Monitor.stands g.M.Monitor.noted c.args.model.now c.args.pool.now c.loop-number.pool c.comes.new.pool c.loop-number.invariant.frame c.comes.ensures.frame;
  number = λ k h stands.
      number_counted (Comes g.M.Monitor.WHICH c.args.model.now k h c.args.trials.now) c.loop-number.number c.loop-number.count c.counted-count.result c.in_ok-kept.kept
      (c.in_ok-kept.ensures.exact k h (c.loop-number.invariant.frame.others c.args.monitor.now k h stands)) c.counted-count.ensures.more c.counted-count.ensures.same (c.loop-number.invariant.number k h stands);
  few = omega (arith, c.counted-count.ensures.few, c.loop-number.invariant.few);
}

pub returns-clause-exact : goal.returns-clause-exact
returns-clause-exact g c k h stands =
    let ended : c.loop-number.number ≡ 24 = omega (arith, c.loop-number.auto.number-end, c.loop-number-test.false) in
    next_is g.M.Monitor.WHICH c.args.model.now k h c.args.trials.now c.loop-number.count c.requires.trials
    (subst (λ n. IsNumberOf (Comes g.M.Monitor.WHICH c.args.model.now k h c.args.trials.now) n c.loop-number.count) ended (c.loop-number.invariant.number k h stands))
