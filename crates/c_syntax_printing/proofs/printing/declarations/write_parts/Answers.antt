use Rattle.std.proofs.Common.{arith, false}
use Rattle.c_syntax.specs.View.{declarator_of}
use Rattle.c_syntax.specs.UnitView.{maybe_init_of, parts_of}
use Rattle.c_syntax.specs.Print.{part_kinds}
use Rattle.c_syntax.specs.Writes.{separator}
use Rattle.c_syntax.specs.WritesUnit.{left_parts}
use Rattle.c_syntax.proofs.Writing.{all_written, and_then, one_written}
use Rattle.c_syntax_printing.proofs.Lists.{no_parts_left, parts_first}
use Rattle.c_syntax_printing.proofs.printing.declarations.write_parts.Goals as goal

pub loop-part-preserved : goal.loop-part-preserved
loop-part-preserved c =
    one_written (λ xs. left_parts c.loop-part.first (parts_of xs)) (λ xs. left_parts false (parts_of xs)) (λ x k. separator c.loop-part.first (part_kinds (declarator_of x.declarator) (maybe_init_of x.init) k)) (parts_first c.loop-part.first)
    c.args.parts.now c.loop-part.part-index c.part-item.result c.loop-part-test.true c.part-item.is c.loop-part.invariant (and_then c.in_ok-push_separator.ensures c.in_ok-write_part.ensures)

pub returns : goal.returns
returns c =
    all_written (λ xs. left_parts c.loop-part.first (parts_of xs)) (no_parts_left c.loop-part.first) c.args.parts.now c.loop-part.part-index (omega arith) c.loop-part.invariant
