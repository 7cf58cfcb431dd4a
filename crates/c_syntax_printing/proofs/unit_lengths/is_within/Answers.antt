use Rattle.std.proofs.Common.{arith, ◌+◌}
use Rattle.c_syntax_printing.proofs.Limits.{item_counted, past_limit, within_limit, is_within, is_past}
use Rattle.c_syntax_printing.proofs.unit_lengths.is_within.Goals as goal

pub loop-item-preserved : goal.loop-item-preserved
loop-item-preserved c = record {
  leaves =
      item_counted c.args.items.now c.loop-item.item-index c.item-item.result c.loop-item-test.true c.item-item.is
      c.loop-item.invariant.leaves c.count_item-total.ensures;
  within = omega arith;
}

pub returns-then-limit-total : goal.returns-then-limit-total
returns-then-limit-total c =
    is_past _ _
    (past_limit c.args.items.now (c.loop-item.item-index + 1) c.count_item-total.result c.args.most
    (item_counted c.args.items.now c.loop-item.item-index c.item-item.result c.loop-item-test.true c.item-item.is c.loop-item.invariant.leaves c.count_item-total.ensures)
    (omega arith) (omega arith))

pub returns : goal.returns
returns c =
    is_within _ _
    (within_limit c.args.items.now c.loop-item.item-index c.loop-item.total c.args.most (omega arith) c.loop-item.invariant.leaves (omega arith) c.loop-item.invariant.within)
