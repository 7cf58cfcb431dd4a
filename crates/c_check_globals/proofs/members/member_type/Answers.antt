use Rattle.std.proofs.Common.{◌≡◌, ◌∙◌}
use Rattle.c_check_globals.proofs.Moves.{node_fails, on_is}
use Rattle.c_check_units.proofs.Parts.{raised}
use Rattle.c_rules.specs.Checked.{Checked, on}
use Rattle.c_rules.specs.Declarators.{place_or}
use Rattle.c_rules.specs.Expressions.{type_declared}
use Rattle.c_rules.specs.Items.{member_typed}
use Rattle.c_check_scopes.specs.View.{env_of}
use Rattle.c_syntax.specs.View.{declarator_of, spec_of}
use Rattle.c_tree.specs.Tree.{CType}
use Rattle.c_tree.specs.View.{ctype_of}
use Rattle.c_check_globals.proofs.members.member_type.Goals as goal

pub returns-in_err-member_typed-clause-judged : goal.returns-in_err-member_typed-clause-judged
returns-in_err-member_typed-clause-judged c =
    let typed : Checked CType = type_declared (env_of c.args.env.now) c.args.at (spec_of c.args.s.now) (declarator_of c.args.d.now) in
    let k : CType → Checked CType = member_typed (env_of c.args.env.now) (place_or c.args.at (declarator_of c.args.d.now)) c.args.x.now.at in
    let t : CType = ctype_of c.in_ok-ctype.ctype in
    let r : Checked CType = member_typed (env_of c.type_declared.new.env) c.place_of_declarator.result c.args.x.now.at t in
    let node : r ≡ k t = λ i. member_typed (env_of (c.in_ok-ctype.ensures.kept i)) (c.place_of_declarator.ensures c.args.at i) c.args.x.now.at t in
    raised ctype_of (on typed k) c.from_residual-in_err-member_typed.result c.in_err-member_typed.field-0.0 c.from_residual-in_err-member_typed.ensures
    (node_fails c.in_err-member_typed.field-0.0 typed k t r c.in_ok-ctype.ensures.judged node c.in_err-member_typed.ensures)

pub returns-clause-judged : goal.returns-clause-judged
returns-clause-judged c =
    let typed : Checked CType = type_declared (env_of c.args.env.now) c.args.at (spec_of c.args.s.now) (declarator_of c.args.d.now) in
    let k : CType → Checked CType = member_typed (env_of c.args.env.now) (place_or c.args.at (declarator_of c.args.d.now)) c.args.x.now.at in
    let t : CType = ctype_of c.in_ok-ctype.ctype in
    let r : Checked CType = member_typed (env_of c.type_declared.new.env) c.place_of_declarator.result c.args.x.now.at t in
    let node : r ≡ k t = λ i. member_typed (env_of (c.in_ok-ctype.ensures.kept i)) (c.place_of_declarator.ensures c.args.at i) c.args.x.now.at t in
    on_is typed k t r c.in_ok-ctype.ensures.judged node ∙ c.in_ok-member_typed.ensures
