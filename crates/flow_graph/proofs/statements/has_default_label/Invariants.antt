use Rattle.std.proofs.Common.{◌≡◌, drop}
use Rattle.c_meaning.specs.ShapeOf.{has_default_label}
use Rattle.flow_graph.proofs.statements.has_default_label.Given as goal

abbrev pub invariant-loop-label : goal.invariant-loop-label
invariant-loop-label l = has_default_label (drop l.label-index l.labels) ≡ has_default_label l.labels
