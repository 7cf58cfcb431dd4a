use Rattle.std.proofs.Common.{◌≡◌, drop}
use Rattle.std.specs.Prelude.{pos}
use Rattle.c_rules.specs.Checked.{fine}
use Rattle.c_rules.specs.Items.{behind_enumerators, enumerators}
use Rattle.c_check_scopes.specs.View.{env_of}
use Rattle.c_syntax.specs.UnitView.{enumerators_of}
use Rattle.c_check_globals.proofs.enums.enumerators.Given as goal

abbrev pub invariant-loop-e : goal.invariant-loop-e
invariant-loop-e l =
    (enumerators (env_of l.fn.env) (fine (pos 0)) (enumerators_of l.es) ≡ enumerators (env_of l.env) (fine l.next) (enumerators_of (drop l.e-index l.es)))
    × (behind_enumerators (env_of l.fn.env) (fine (pos 0)) (enumerators_of l.es) ≡ behind_enumerators (env_of l.env) (fine l.next) (enumerators_of (drop l.e-index l.es)))
