use Rattle.std.proofs.Common.{ℕ, List, refl, ap, sym, ◌∙◌}
use Rattle.std.specs.Prelude.{reverse, Some}
use Rattle.c_check_units.proofs.Parts.{raised, names_first, names_second}
use Rattle.c_check_globals.proofs.Moves.{both_is}
use Rattle.c_check_globals.specs.Views.{member_seen}
use Rattle.c_rules.specs.Checked.{Checked, Met, met, fine, on}
use Rattle.c_rules.specs.Declarators.{place_or}
use Rattle.c_rules.specs.Expressions.{type_declared}
use Rattle.c_rules.specs.Items.{member_named, member_typed, new_member}
use Rattle.c_rules.specs.Scopes.{Member}
use Rattle.c_check_scopes.specs.View.{env_of}
use Rattle.c_syntax.specs.View.{declarator_of, ident_of, spec_of}
use Rattle.c_tree.specs.Tree.{CType}
use Rattle.c_tree.specs.View.{ctype_of}
use Rattle.c_check_globals.proofs.members.member_named.Goals as goal

abbrev node : List ℕ → Met → CType → Checked Member
node x u t = fine (record { name = x; ctype = t })

pub returns-in_err-new_member-clause-judged : goal.returns-in_err-new_member-clause-judged
returns-in_err-new_member-clause-judged c =
    let env = env_of c.args.env.now in
    let x = ident_of c.args.x.now in
    let typed : Checked CType = on (type_declared env c.args.at (spec_of c.args.s.now) (declarator_of c.args.d.now)) (member_typed env (place_or c.args.at (declarator_of c.args.d.now)) x.at) in
    raised member_seen (member_named env (reverse c.args.earlier.now) c.args.at (spec_of c.args.s.now) (declarator_of c.args.d.now) (Some x)) c.from_residual.result c.in_err-new_member.field-0.0 c.from_residual.ensures
    (names_first c.in_err-new_member.field-0.0 (new_member env (reverse c.args.earlier.now) x) typed (node x.name) c.in_err-new_member.ensures)

pub returns-in_err-ctype-clause-judged : goal.returns-in_err-ctype-clause-judged
returns-in_err-ctype-clause-judged c =
    let env = env_of c.args.env.now in
    let x = ident_of c.args.x.now in
    let typed : Checked CType = on (type_declared env c.args.at (spec_of c.args.s.now) (declarator_of c.args.d.now)) (member_typed env (place_or c.args.at (declarator_of c.args.d.now)) x.at) in
    raised member_seen (member_named env (reverse c.args.earlier.now) c.args.at (spec_of c.args.s.now) (declarator_of c.args.d.now) (Some x)) c.from_residual-in_err-ctype.result c.in_err-ctype.field-0.0 c.from_residual-in_err-ctype.ensures
    (names_second c.in_err-ctype.field-0.0 (new_member env (reverse c.args.earlier.now) x) typed (node x.name) c.in_err-ctype.ensures.judged)

pub returns-clause-judged : goal.returns-clause-judged
returns-clause-judged c =
    let env = env_of c.args.env.now in
    let x = ident_of c.args.x.now in
    let typed : Checked CType = on (type_declared env c.args.at (spec_of c.args.s.now) (declarator_of c.args.d.now)) (member_typed env (place_or c.args.at (declarator_of c.args.d.now)) x.at) in
    both_is (new_member env (reverse c.args.earlier.now) x) typed (node x.name) met (ctype_of c.in_ok-ctype.ctype) typed c.in_ok-new_member.ensures refl c.in_ok-ctype.ensures.judged
    ∙ ap (λ n. node n met (ctype_of c.in_ok-ctype.ctype)) (sym c.as_slice.ensures)
