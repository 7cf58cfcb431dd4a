use Rattle.std.proofs.Common.{arith, false}
use Rattle.c_syntax.specs.View.{ident_of}
use Rattle.c_syntax.specs.UnitView.{enumerators_of, maybe_of}
use Rattle.c_syntax.specs.Writes.{separator}
use Rattle.c_syntax.specs.WritesUnit.{enumerator_kinds, left_enumerators}
use Rattle.c_syntax.proofs.Writing.{all_written, and_then, one_written}
use Rattle.c_syntax_printing.proofs.Lists.{enumerators_first, no_enumerators_left}
use Rattle.c_syntax_printing.proofs.printing.items.write_enumerators.Goals as goal

pub loop-enumerator-preserved : goal.loop-enumerator-preserved
loop-enumerator-preserved c =
    one_written (λ xs. left_enumerators c.loop-enumerator.first (enumerators_of xs)) (λ xs. left_enumerators false (enumerators_of xs)) (λ x k. separator c.loop-enumerator.first (enumerator_kinds (ident_of x.name) (maybe_of x.value) k)) (enumerators_first c.loop-enumerator.first)
    c.args.list.now c.loop-enumerator.enumerator-index c.enumerator-item.result c.loop-enumerator-test.true c.enumerator-item.is c.loop-enumerator.invariant (and_then c.in_ok-push_separator.ensures c.in_ok-write_enumerator.ensures)

pub returns : goal.returns
returns c =
    all_written (λ xs. left_enumerators c.loop-enumerator.first (enumerators_of xs)) (no_enumerators_left c.loop-enumerator.first) c.args.list.now c.loop-enumerator.enumerator-index (omega arith) c.loop-enumerator.invariant
