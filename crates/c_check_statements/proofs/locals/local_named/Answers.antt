use Rattle.std.proofs.Common.{◌≡◌, [], ◌∷◌, Some, true, false, Contains, refl, sym, subst, ◌∙◌, arith}
use Rattle.c_check_bodies.specs.Numbered.{next_of}
use Rattle.c_check_declarations.specs.Agreement.{AgreesWith}
use Rattle.c_check_declarations.proofs.Parts.{raised}
use Rattle.c_check_bodies.specs.StatementTreeView.{statement_tree_of}
use Rattle.c_rules.specs.Blocks.{is_given, local, local_named}
use Rattle.c_rules.specs.Declarators.{place_or}
use Rattle.c_rules.specs.Checked.{Checked}
use Rattle.c_rules.specs.Expressions.{type_declared}
use Rattle.c_rules.specs.Objects.{object_declared}
use Rattle.c_check_scopes.specs.declared.environment.Environment.{Environment}
use Rattle.c_check_scopes.specs.View.{before_of, env_of}
use Rattle.c_check_statements.proofs.DeclarationLemmas.{given_fails, other_judged, seen_fails, seen_given, variable_fails}
use Rattle.c_syntax.specs.UnitView.{maybe_init_of}
use Rattle.c_syntax.specs.View.{declarator_of, ident_of, spec_of}
use Rattle.c_tree.specs.Tree.{CType}
use Rattle.c_check_statements.proofs.locals.local_named.Goals as goal

pub returns-in_err-given-clause-judged : goal.returns-in_err-given-clause-judged
returns-in_err-given-clause-judged c =
    let env = env_of c.args.env.now in
    let x = ident_of c.args.x.now in
    let s = spec_of c.args.spec.now in
    let d = declarator_of c.args.d.now in
    let m = maybe_init_of c.args.m.now in
    let b = before_of c.args.before.now in
    let next = next_of c.args.next in
    let t : Checked CType = type_declared env c.args.at s d in
    raised statement_tree_of (local_named env b next c.args.at s d m (Some x)) c.from_residual.result c.in_err-given.field-0.0 c.from_residual.ensures
    (variable_fails env x b next c.args.at s d m c.in_err-given.field-0.0 (seen_fails env x c.in_err-given.field-0.0 t c.in_err-given.ensures.judged))

pub returns-then-given-clause-judged : goal.returns-then-given-clause-judged
returns-then-given-clause-judged c =
    let env = env_of c.args.env.now in
    let x = ident_of c.args.x.now in
    let s = spec_of c.args.spec.now in
    let d = declarator_of c.args.d.now in
    let m = maybe_init_of c.args.m.now in
    let b = before_of c.args.before.now in
    let next = next_of c.args.next in
    let t : Checked CType = type_declared env c.args.at s d in
    let is : true ≡ is_given env x.name t = sym c.if-given.true ∙ seen_given env x t c.in_ok-given.given c.in_ok-given.ensures.judged in
    rw c.place_of.ensures (subst (λ fs. Contains fs (record { code = 3; at = place_or c.args.at d })) (sym (given_fails env x b next c.args.at s d m is)) (0, omega arith, refl))

pub returns-clause-judged : goal.returns-clause-judged
returns-clause-judged c =
    let env = env_of c.args.env.now in
    let x = ident_of c.args.x.now in
    let s = spec_of c.args.spec.now in
    let d = declarator_of c.args.d.now in
    let m = maybe_init_of c.args.m.now in
    let b = before_of c.args.before.now in
    let next = next_of c.args.next in
    let t : Checked CType = type_declared env c.args.at s d in
    other_judged env x b next c.args.at s d m c.local.result (sym c.if-given.false ∙ seen_given env x t c.in_ok-given.given c.in_ok-given.ensures.judged)
    (subst (λ (e : Environment). AgreesWith statement_tree_of c.local.result (local (env_of e) b next x m (object_declared (env_of e) c.args.at s d x m))) c.in_ok-given.ensures.kept c.local.ensures.judged)
