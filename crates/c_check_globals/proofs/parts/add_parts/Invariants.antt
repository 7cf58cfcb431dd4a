use Rattle.std.proofs.Common.{◌≡◌, drop}
use Rattle.c_check_units.specs.OutputView.{output_of}
use Rattle.c_rules.specs.Checked.{gives}
use Rattle.c_rules.specs.Items.{after_file_parts, behind_file_parts, file_parts, with_output}
use Rattle.c_check_scopes.specs.View.{before_of, env_of}
use Rattle.c_syntax.specs.UnitView.{parts_of, storage_of}
use Rattle.c_syntax.specs.View.{spec_of}
use Rattle.c_check_globals.proofs.parts.add_parts.Given as goal

abbrev pub invariant-loop-p : goal.invariant-loop-p
invariant-loop-p l =
    (gives (file_parts (env_of l.fn.env) (before_of l.fn.before) l.at (storage_of l.class) (spec_of l.s) (parts_of l.ps)) (with_output (output_of l.fn.into))
    ≡ gives (file_parts (env_of l.env) (before_of l.before) l.at (storage_of l.class) (spec_of l.s) (parts_of (drop l.p-index l.ps))) (with_output (output_of l.into)))
    × (behind_file_parts (env_of l.fn.env) (before_of l.fn.before) l.at (storage_of l.class) (spec_of l.s) (parts_of l.ps) ≡ behind_file_parts (env_of l.env) (before_of l.before) l.at (storage_of l.class) (spec_of l.s) (parts_of (drop l.p-index l.ps)))
    × (after_file_parts (env_of l.fn.env) (before_of l.fn.before) l.at (storage_of l.class) (spec_of l.s) (parts_of l.ps) ≡ after_file_parts (env_of l.env) (before_of l.before) l.at (storage_of l.class) (spec_of l.s) (parts_of (drop l.p-index l.ps)))
