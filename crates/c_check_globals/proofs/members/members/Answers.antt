use Rattle.std.proofs.Common.{[], ◌++◌, List, ap, sym, subst, ◌∙◌}
use Rattle.std.specs.Prelude.{reverse}
use Rattle.c_check_units.proofs.Parts.{raised}
use Rattle.c_check_units.specs.Agreement.{Names}
use Rattle.c_check_globals.proofs.Loops.{members_more, members_fail, members_end}
use Rattle.c_rules.specs.Checked.{Checked, faults, gives}
use Rattle.c_rules.specs.Items.{members, members_declared, names_behind}
use Rattle.c_rules.specs.Scopes.{Member}
use Rattle.c_check_scopes.specs.View.{env_of}
use Rattle.c_check_declarations.specs.Members.{members_of}
use Rattle.c_syntax.specs.UnitView as syntax
use Rattle.c_syntax.specs.View.{spec_of}
use Rattle.c_check_globals.proofs.members.members.Goals as goal

pub loop-m-preserved : goal.loop-m-preserved
loop-m-preserved c =
    let all : Checked (List Member) = members (env_of c.args.env.now) [] (syntax.members_of c.args.ms.now) in (
      members_more (env_of c.loop-m.env) (reverse c.loop-m.earlier) c.args.ms.now c.loop-m.m-index c.m-item.result (members_of c.loop-m.into.items) all (env_of c.add_members.new.env) (reverse c.add_members.new.earlier) (members_of c.add_members.new.into.items)
          c.loop-m-test.true c.m-item.is c.loop-m.invariant.0 (ap (λ xs. gives (members_declared (env_of c.loop-m.env) (reverse c.loop-m.earlier) c.m-item.result.at (spec_of c.m-item.result.spec) (syntax.declarators_of xs)) (λ ms. members_of c.loop-m.into.items ++ ms)) (sym c.deref.ensures.value) ∙ c.in_ok-add_members.ensures.judged) (c.in_ok-add_members.ensures.named ∙ ap (λ xs. names_behind (reverse c.loop-m.earlier) (syntax.declarators_of xs)) c.deref.ensures.value) (ap env_of c.in_ok-add_members.ensures.kept),
      c.in_ok-add_members.ensures.kept ∙ c.loop-m.invariant.1,
    )

pub returns-in_err-add_members-clause-judged : goal.returns-in_err-add_members-clause-judged
returns-in_err-add_members-clause-judged c =
    let all : Checked (List Member) = members (env_of c.args.env.now) [] (syntax.members_of c.args.ms.now) in
    raised (λ v. members_of v.items) all c.from_residual.result c.in_err-add_members.field-0.0 c.from_residual.ensures
    (members_fail (env_of c.loop-m.env) (reverse c.loop-m.earlier) c.args.ms.now c.loop-m.m-index c.m-item.result (members_of c.loop-m.into.items) all c.in_err-add_members.field-0.0 c.loop-m-test.true c.m-item.is c.loop-m.invariant.0 (subst (λ xs. Names c.in_err-add_members.field-0.0 (faults (gives (members_declared (env_of c.loop-m.env) (reverse c.loop-m.earlier) c.m-item.result.at (spec_of c.m-item.result.spec) (syntax.declarators_of xs)) (λ ms. members_of c.loop-m.into.items ++ ms)))) c.deref.ensures.value c.in_err-add_members.ensures.judged))

pub returns-clause-judged : goal.returns-clause-judged
returns-clause-judged c =
    members_end (env_of c.loop-m.env) (reverse c.loop-m.earlier) c.args.ms.now c.loop-m.m-index (members_of c.loop-m.into.items) (members (env_of c.args.env.now) [] (syntax.members_of c.args.ms.now)) c.loop-m-test.false c.loop-m.invariant.0
