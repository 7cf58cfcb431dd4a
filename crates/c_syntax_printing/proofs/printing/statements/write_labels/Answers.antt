use Rattle.std.proofs.Common.{arith, refl}
use Rattle.c_syntax.specs.UnitView.{labels_of}
use Rattle.c_syntax.specs.Print.{labels_kinds}
use Rattle.c_syntax.specs.WritesUnit.{label_kinds}
use Rattle.c_syntax.proofs.Writing.{all_written, one_written}
use Rattle.c_syntax_printing.proofs.Lists.{labels_first}
use Rattle.c_syntax_printing.proofs.printing.statements.write_labels.Goals as goal

pub loop-label-preserved : goal.loop-label-preserved
loop-label-preserved c =
    one_written (λ xs. labels_kinds (labels_of xs)) (λ xs. labels_kinds (labels_of xs)) (λ x. label_kinds x.kind) labels_first
    c.args.labels.now c.loop-label.label-index c.label-item.result c.loop-label-test.true c.label-item.is c.loop-label.invariant c.in_ok-write_label.ensures

pub returns : goal.returns
returns c =
    all_written (λ xs. labels_kinds (labels_of xs)) (λ k. refl) c.args.labels.now c.loop-label.label-index (omega arith) c.loop-label.invariant
