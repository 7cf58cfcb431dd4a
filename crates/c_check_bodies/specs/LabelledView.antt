-- What groups of a switch give, as the rules have it.
use Rattle.std.specs.Prelude.{◌++◌}
use Rattle.c_check_bodies.specs.declared.switches.Labelled.{Labelled as LabelledTree}
use Rattle.c_check_bodies.specs.VariablesView.{laid_with, variables_of}
use Rattle.c_rules.specs.Blocks.{joined}
use Rattle.c_rules.specs.Statements.{Labelled}
use Rattle.c_tree.specs.Tree.{Groups, no_groups, more_groups}
use Rattle.c_tree.specs.View.{groups_of}

abbrev pub labelled_of : LabelledTree → Labelled
labelled_of l = record { groups = laid_with (variables_of l.variables) (groups_of l.groups.items); labels = l.labels.items }

-- groups, and others behind them
abbrev pub groups_before : Groups → Groups → Groups
groups_before no_groups hs = hs
groups_before (more_groups ls ss gs) hs = more_groups ls ss (groups_before gs hs)

abbrev pub labelled_before : Labelled → Labelled → Labelled
labelled_before p q = record { groups = joined p.groups q.groups (groups_before p.groups.tree q.groups.tree); labels = p.labels ++ q.labels }
