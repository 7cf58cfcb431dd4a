use Rattle.std.proofs.Common.{◌≡◌, drop}
use Rattle.c_rules.specs.Statements.{labels_of}
use Rattle.c_check_scopes.specs.View.{env_of}
use Rattle.c_check_statements.proofs.SwitchLemmas.{onto_labels}
use Rattle.c_check_statements.proofs.labels.labels_of.Given as goal
use Rattle.c_syntax.specs.UnitView.{labels_of as labels_seen}

abbrev pub invariant-loop-label : goal.invariant-loop-label
invariant-loop-label l = record {
  judged : labels_of (env_of l.fn.env) l.i (labels_seen l.labels) ≡ onto_labels l.all.items (labels_of (env_of l.fn.env) l.i (labels_seen (drop l.label-index l.labels)));
  kept : l.env ≡ l.fn.env;
}
