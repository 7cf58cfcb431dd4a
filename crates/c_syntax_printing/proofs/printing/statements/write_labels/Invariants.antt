use Rattle.std.proofs.Common.{drop}
use Rattle.c_syntax.specs.UnitView.{labels_of}
use Rattle.c_syntax.specs.Print.{labels_kinds}
use Rattle.c_syntax.specs.Writes.{Leaves}
use Rattle.c_syntax_printing.proofs.printing.statements.write_labels.Given as goal

abbrev pub invariant-loop-label : goal.invariant-loop-label
invariant-loop-label l =
    Leaves l.fn.out.items (labels_kinds (labels_of l.labels)) l.out.items (labels_kinds (labels_of (drop l.label-index l.labels)))
