use Rattle.std.proofs.Common.{drop}
use Rattle.c_syntax.specs.UnitView.{labels_of}
use Rattle.c_syntax.specs.Print.{labels_kinds}
use Rattle.c_syntax_printing.specs.Counted.{Leaves}
use Rattle.c_syntax_printing.proofs.statement_lengths.count_labels.Given as goal

abbrev pub invariant-loop-label : goal.invariant-loop-label
invariant-loop-label l =
    Leaves l.fn.total (labels_kinds (labels_of l.labels)) l.total (labels_kinds (labels_of (drop l.label-index l.labels)))
