use Rattle.std.proofs.Common.{◌++◌, List, ap, sym, ◌∙◌}
use Rattle.std.specs.Prelude.{reverse}
use Rattle.c_check_units.proofs.Parts.{raised}
use Rattle.c_check_globals.proofs.Loops.{member_more, member_fails, member_end, names_more, names_end}
use Rattle.c_rules.specs.Checked.{Checked, gives}
use Rattle.c_rules.specs.Items.{members_declared, names_behind}
use Rattle.c_rules.specs.Names.{Name}
use Rattle.c_rules.specs.Scopes.{Member}
use Rattle.c_check_scopes.specs.View.{env_of}
use Rattle.c_check_declarations.specs.Members.{members_of}
use Rattle.c_syntax.specs.UnitView.{declarators_of}
use Rattle.c_syntax.specs.View.{spec_of}
use Rattle.c_check_globals.proofs.members.add_members.Goals as goal

pub loop-d-preserved : goal.loop-d-preserved
loop-d-preserved c =
    let all : Checked (List Member) = gives (members_declared (env_of c.args.env.now) (reverse c.args.earlier.now) c.args.at (spec_of c.args.s.now) (declarators_of c.args.ds.now)) (λ ms. members_of c.args.into.now.items ++ ms) in
    let names : List Name = names_behind (reverse c.args.earlier.now) (declarators_of c.args.ds.now) in (
      member_more (env_of c.loop-d.env) (reverse c.loop-d.earlier) c.args.at (spec_of c.args.s.now) c.args.ds.now c.loop-d.d-index c.d-item.result (members_of c.loop-d.into.items) all (env_of c.add_member.new.env) (reverse c.add_member.new.earlier) (members_of c.add_member.new.into.items)
          c.loop-d-test.true c.d-item.is c.loop-d.invariant.0 c.in_ok-add_member.ensures.judged c.in_ok-add_member.ensures.named (ap env_of c.in_ok-add_member.ensures.kept),
      names_more (env_of c.loop-d.env) (reverse c.loop-d.earlier) c.args.at (spec_of c.args.s.now) c.args.ds.now c.loop-d.d-index c.d-item.result (members_of c.loop-d.into.items) all (reverse c.add_member.new.earlier) names c.loop-d-test.true c.d-item.is c.loop-d.invariant.1
          c.in_ok-add_member.ensures.named,
      c.in_ok-add_member.ensures.kept ∙ c.loop-d.invariant.2,
    )

pub returns-in_err-add_member-clause-judged : goal.returns-in_err-add_member-clause-judged
returns-in_err-add_member-clause-judged c =
    let all : Checked (List Member) = gives (members_declared (env_of c.args.env.now) (reverse c.args.earlier.now) c.args.at (spec_of c.args.s.now) (declarators_of c.args.ds.now)) (λ ms. members_of c.args.into.now.items ++ ms) in
    raised (λ _. members_of c.add_member.new.into.items) all c.from_residual.result c.in_err-add_member.field-0.0 c.from_residual.ensures
    (member_fails (env_of c.loop-d.env) (reverse c.loop-d.earlier) c.args.at (spec_of c.args.s.now) c.args.ds.now c.loop-d.d-index c.d-item.result (members_of c.loop-d.into.items) all c.in_err-add_member.field-0.0 c.loop-d-test.true c.d-item.is c.loop-d.invariant.0
    c.in_err-add_member.ensures.judged)

pub returns-clause-judged : goal.returns-clause-judged
returns-clause-judged c =
    member_end (env_of c.loop-d.env) (reverse c.loop-d.earlier) c.args.at (spec_of c.args.s.now) c.args.ds.now c.loop-d.d-index (members_of c.loop-d.into.items)
    (gives (members_declared (env_of c.args.env.now) (reverse c.args.earlier.now) c.args.at (spec_of c.args.s.now) (declarators_of c.args.ds.now)) (λ ms. members_of c.args.into.now.items ++ ms)) c.loop-d-test.false c.loop-d.invariant.0

pub returns-clause-named : goal.returns-clause-named
returns-clause-named c =
    sym (names_end (reverse c.loop-d.earlier) (names_behind (reverse c.args.earlier.now) (declarators_of c.args.ds.now)) c.args.ds.now c.loop-d.d-index c.loop-d-test.false c.loop-d.invariant.1)
