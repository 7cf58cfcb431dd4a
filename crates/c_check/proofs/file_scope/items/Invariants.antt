use Rattle.std.proofs.Common.{◌≡◌, drop}
use Rattle.c_check_units.specs.OutputView.{output_of}
use Rattle.c_rules.specs.Checked.{gives}
use Rattle.c_rules.specs.Items.{after_items, behind_items, items, with_output}
use Rattle.c_check_statements.specs.View.{before_of, env_of}
use Rattle.c_syntax.specs.UnitView.{items_of}
use Rattle.c_check.proofs.file_scope.items.Given as goal

abbrev pub invariant-loop-each : goal.invariant-loop-each
invariant-loop-each l =
    (items (env_of l.fn.env) (before_of l.fn.before) (items_of l.all) ≡ gives (items (env_of l.env) (before_of l.before) (items_of (drop l.each-index l.all))) (with_output (output_of l.into)))
    × (behind_items (env_of l.fn.env) (before_of l.fn.before) (items_of l.all) ≡ behind_items (env_of l.env) (before_of l.before) (items_of (drop l.each-index l.all)))
    × (after_items (env_of l.fn.env) (before_of l.fn.before) (items_of l.all) ≡ after_items (env_of l.env) (before_of l.before) (items_of (drop l.each-index l.all)))
