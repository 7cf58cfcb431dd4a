use Rattle.std.proofs.Common.{◌+◌, nat_lt, get_or, refl, arith}
use Rattle.flow_graph.proofs.TakenLemmas.{below_more, below_end, at_most_one}
use Rattle.flow_graph.proofs.places.count_below.Goals as goal

pub overflow_add-count : goal.overflow_add-count
overflow_add-count c =
    let u = at_most_one (nat_lt (get_or c.args.numbers.now c.loop-x.x-index 0) c.args.bound) c.one_if-count.result c.one_if-count.ensures in
    omega (arith, u, c.loop-x.invariant.few, c.loop-x-test.true, c.requires)

pub loop-x-preserved : goal.loop-x-preserved
loop-x-preserved c =
    let x = get_or c.args.numbers.now c.loop-x.x-index 0 in
    let u = at_most_one (nat_lt x c.args.bound) c.one_if-count.result c.one_if-count.ensures in
    record {
      count = below_more (λ y. nat_lt y c.args.bound) c.args.numbers.now c.loop-x.x-index x c.loop-x.count (c.loop-x.count + c.one_if-count.result) c.one_if-count.result c.loop-x-test.true refl c.loop-x.invariant.count c.one_if-count.ensures refl;
      few = omega (arith, u, c.loop-x.invariant.few);
    }

pub returns-clause-count : goal.returns-clause-count
returns-clause-count c = below_end (λ y. nat_lt y c.args.bound) c.args.numbers.now c.loop-x.x-index c.loop-x.count c.loop-x-test.false c.loop-x.invariant.count
