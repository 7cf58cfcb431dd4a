use Rattle.std.proofs.Common.{[], refl}
use Rattle.c_syntax.specs.Tree.{more_items}
use Rattle.c_syntax.specs.UnitView.{item_at}
use Rattle.c_syntax.specs.SeenNames.{seen}
use Rattle.null_calls_expressions.specs.Sited.{sited}
use Rattle.null_calls_expressions.specs.Marked.{IsMarked}
use Rattle.null_calls_expressions.proofs.Turns.{both, node, starts, goes_on, ends}
use Rattle.null_calls.proofs.UnitLemmas.{of_item}
use Rattle.null_calls.proofs.units.all_items.Goals as goal

pub loop-k-init : goal.loop-k-init
loop-k-init c = rw c.zero-next.ensures (starts c.new-made.ensures.items)

pub loop-k-preserved : goal.loop-k-preserved
loop-k-preserved c =
    let x = c.index-list-k.result in
    let y = c.in_ok-one.one in
    let one : IsMarked (of_item (sited c.args.table.now) (seen c.args.tags.now)) (c.loop-k.next, []) (c.item.new.next, []) (item_at x.at x.kind) (item_at y.at y.kind) = record { tree = c.in_ok-one.ensures.tree; keeps = refl; counts = c.in_ok-one.ensures.counts } in
    goes_on y c.loop-k.invariant c.loop-k-test.true c.index-list-k.is c.in_ok-push.ensures.items (λ r others q. node (both one q) (λ z. more_items z.0 z.1) refl refl refl refl refl)

pub returns : goal.returns
returns c = (ends c.loop-k.invariant c.loop-k-test.false (λ _ _. refl) refl refl refl).tree
