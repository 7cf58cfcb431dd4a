use Rattle.std.proofs.Common.{◌≡◌, [], ◌++◌, drop}
use Rattle.std.specs.Prelude.{reverse}
use Rattle.c_rules.specs.Checked.{gives}
use Rattle.c_rules.specs.Items.{members}
use Rattle.c_check_scopes.specs.View.{env_of}
use Rattle.c_check_declarations.specs.Members.{members_of}
use Rattle.c_syntax.specs.UnitView as syntax
use Rattle.c_check_globals.proofs.members.members.Given as goal

abbrev pub invariant-loop-m : goal.invariant-loop-m
invariant-loop-m l =
    (members (env_of l.fn.env) [] (syntax.members_of l.ms) ≡ gives (members (env_of l.env) (reverse l.earlier) (syntax.members_of (drop l.m-index l.ms))) (λ ms. members_of l.into.items ++ ms))
    × (l.env ≡ l.fn.env)
