use Rattle.std.proofs.Common.{arith, refl}
use Rattle.c_syntax.specs.UnitView.{item_at, items_of}
use Rattle.c_syntax.specs.Print.{item_kinds, unit_kinds}
use Rattle.c_syntax.proofs.Writing.{all_written, one_written}
use Rattle.c_syntax_printing.proofs.printing.items.write_items.Goals as goal

pub loop-item-preserved : goal.loop-item-preserved
loop-item-preserved c =
    one_written (λ xs. unit_kinds (items_of xs)) (λ xs. unit_kinds (items_of xs)) (λ x. item_kinds (item_at x.at x.kind)) (λ x xs k. refl)
    c.args.items.now c.loop-item.item-index c.item-item.result c.loop-item-test.true c.item-item.is c.loop-item.invariant c.in_ok-write_item.ensures

pub returns : goal.returns
returns c =
    all_written (λ xs. unit_kinds (items_of xs)) (λ k. refl) c.args.items.now c.loop-item.item-index (omega arith) c.loop-item.invariant
