use Rattle.std.proofs.Common.{◌≡◌, ◌++◌, drop}
use Rattle.std.specs.Prelude.{reverse}
use Rattle.c_rules.specs.Checked.{gives}
use Rattle.c_rules.specs.Items.{members_declared, names_behind}
use Rattle.c_check_scopes.specs.View.{env_of}
use Rattle.c_check_declarations.specs.Members.{members_of}
use Rattle.c_syntax.specs.UnitView.{declarators_of}
use Rattle.c_syntax.specs.View.{spec_of}
use Rattle.c_check_globals.proofs.members.add_members.Given as goal

abbrev pub invariant-loop-d : goal.invariant-loop-d
invariant-loop-d l =
    (gives (members_declared (env_of l.fn.env) (reverse l.fn.earlier) l.at (spec_of l.s) (declarators_of l.ds)) (λ ms. members_of l.fn.into.items ++ ms)
    ≡ gives (members_declared (env_of l.env) (reverse l.earlier) l.at (spec_of l.s) (declarators_of (drop l.d-index l.ds))) (λ ms. members_of l.into.items ++ ms))
    × (names_behind (reverse l.fn.earlier) (declarators_of l.ds) ≡ names_behind (reverse l.earlier) (declarators_of (drop l.d-index l.ds)))
    × (l.env ≡ l.fn.env)
