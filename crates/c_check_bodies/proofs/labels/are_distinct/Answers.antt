use Rattle.std.proofs.Common.{◌≡◌, ◌+◌, ◌-◌, drop, sym, arith}
use Rattle.c_check_bodies.proofs.LabelLemmas.{distinct_on, not_distinct, seen_on}
use Rattle.c_check_bodies.proofs.labels.are_distinct.Goals as goal

pub returns-then-is_repeated : goal.returns-then-is_repeated
returns-then-is_repeated c =
    sym (not_distinct c.args.labels.now c.loop-left.left (c.loop-left.left - 1) c.label_at-label.result c.is_repeated.result (omega (arith, c.loop-left-test.true)) c.label_at-label.ensures (c.is_repeated.ensures (drop c.loop-left.left c.args.labels.now) c.loop-left.invariant.seen) c.if-is_repeated.true)

pub loop-left-preserved : goal.loop-left-preserved
loop-left-preserved c = record {
  few = omega (arith, c.loop-left.invariant.few);
  seen = seen_on c.args.labels.now c.loop-left.left (c.loop-left.left - 1) c.label_at-label.result c.in_ok-seen.seen (omega (arith, c.loop-left-test.true)) c.label_at-label.ensures (c.in_ok-seen.ensures (drop c.loop-left.left c.args.labels.now) c.loop-left.invariant.seen);
  distinct = distinct_on c.args.labels.now c.loop-left.left (c.loop-left.left - 1) c.label_at-label.result c.is_repeated.result (omega (arith, c.loop-left-test.true)) c.label_at-label.ensures (c.is_repeated.ensures (drop c.loop-left.left c.args.labels.now) c.loop-left.invariant.seen)
      c.if-is_repeated.false c.loop-left.invariant.distinct;
}
