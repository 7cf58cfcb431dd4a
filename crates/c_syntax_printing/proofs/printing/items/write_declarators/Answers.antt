use Rattle.std.proofs.Common.{arith, false}
use Rattle.c_syntax.specs.View.{declarator_of}
use Rattle.c_syntax.specs.UnitView.{declarators_of}
use Rattle.c_syntax.specs.Print.{declarator_kinds}
use Rattle.c_syntax.specs.Writes.{separator}
use Rattle.c_syntax.specs.WritesUnit.{left_declarators}
use Rattle.c_syntax.proofs.Writing.{all_written, and_then, one_written}
use Rattle.c_syntax_printing.proofs.Lists.{declarators_first, no_declarators_left}
use Rattle.c_syntax_printing.proofs.printing.items.write_declarators.Goals as goal

pub loop-declarator-preserved : goal.loop-declarator-preserved
loop-declarator-preserved c =
    one_written (λ xs. left_declarators c.loop-declarator.first (declarators_of xs)) (λ xs. left_declarators false (declarators_of xs)) (λ x k. separator c.loop-declarator.first (declarator_kinds (declarator_of x) k)) (declarators_first c.loop-declarator.first)
    c.args.declarators.now c.loop-declarator.declarator-index c.declarator-item.result c.loop-declarator-test.true c.declarator-item.is c.loop-declarator.invariant (and_then c.in_ok-push_separator.ensures c.in_ok-write_declarator.ensures)

pub returns : goal.returns
returns c =
    all_written (λ xs. left_declarators c.loop-declarator.first (declarators_of xs)) (no_declarators_left c.loop-declarator.first) c.args.declarators.now c.loop-declarator.declarator-index (omega arith) c.loop-declarator.invariant
