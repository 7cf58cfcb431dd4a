use Rattle.std.proofs.Common.{ℕ}
use Rattle.certify_making.specs.Pairs.{IsPairWith}
use Rattle.certify_steps.proofs.AddingLemmas.{adds_init, adds_step_at, adds_end}
use Rattle.certify_making.proofs.pairs.pair_each.Goals as goal

pub loop-other-init : goal.loop-other-init
loop-other-init c = adds_init c.args.found.now.items (λ (n : ℕ) l. IsPairWith c.args.model.now c.args.lines.now c.args.fact c.args.number n l)

pub loop-other-preserved : goal.loop-other-preserved
loop-other-preserved c = adds_step_at c.args.found.now.items c.loop-other.found.items c.pair_one.new.found.items (λ (n : ℕ) l. IsPairWith c.args.model.now c.args.lines.now c.args.fact c.args.number n l) c.args.others.now c.loop-other.other-index 0 c.loop-other-test.true c.loop-other.invariant c.in_ok-pair_one.ensures

pub returns : goal.returns
returns c = adds_end c.args.found.now.items c.loop-other.found.items (λ (n : ℕ) l. IsPairWith c.args.model.now c.args.lines.now c.args.fact c.args.number n l) c.args.others.now c.loop-other.other-index c.loop-other-test.false c.loop-other.invariant
