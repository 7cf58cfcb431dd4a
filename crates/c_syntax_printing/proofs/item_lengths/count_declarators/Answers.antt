use Rattle.std.proofs.Common.{arith, false}
use Rattle.c_syntax.specs.View.{declarator_of}
use Rattle.c_syntax.specs.UnitView.{declarators_of}
use Rattle.c_syntax.specs.Print.{declarator_kinds}
use Rattle.c_syntax.specs.Writes.{separator}
use Rattle.c_syntax.specs.WritesUnit.{left_declarators}
use Rattle.c_syntax_printing.proofs.Counting.{all_counted, and_then, one_counted}
use Rattle.c_syntax_printing.proofs.Lists.{declarators_first, no_declarators_left}
use Rattle.c_syntax_printing.proofs.item_lengths.count_declarators.Goals as goal

pub loop-declarator-preserved : goal.loop-declarator-preserved
loop-declarator-preserved c =
    one_counted (λ xs. left_declarators c.loop-declarator.first (declarators_of xs)) (λ xs. left_declarators false (declarators_of xs)) (λ x k. separator c.loop-declarator.first (declarator_kinds (declarator_of x) k)) (declarators_first c.loop-declarator.first)
    c.args.declarators.now c.loop-declarator.declarator-index c.declarator-item.result c.loop-declarator-test.true c.declarator-item.is c.loop-declarator.invariant (and_then c.count_separator-total.ensures c.count_declarator-total.ensures)

pub returns : goal.returns
returns c =
    all_counted (λ xs. left_declarators c.loop-declarator.first (declarators_of xs)) (no_declarators_left c.loop-declarator.first) c.args.declarators.now c.loop-declarator.declarator-index (omega arith) c.loop-declarator.invariant
