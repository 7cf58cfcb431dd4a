use Rattle.std.proofs.Common.{◌≡◌, ◌+◌, ◌≤◌, List, ap, sym, subst, ◌∙◌, rules}
use Rattle.std.specs.Prelude.{[], ◌∷◌, true}
use Rattle.c_check_units.proofs.Parts.{names_on, raised}
use Rattle.c_check_globals.proofs.Moves.{definition_fails, definition_is, same_named, within_limit}
use Rattle.c_check_declarations.specs.ObjectView.{object_seen}
use Rattle.c_rules.specs.Checked.{Checked, fine}
use Rattle.c_rules.specs.Counts.{past}
use Rattle.c_rules.specs.TypedExpression.{TypedExpression}
use Rattle.c_rules.specs.Initialisers.{calls_of_maybe_init, held_by, initialised_static}
use Rattle.c_rules.specs.Items.{after_global, after_object, behind_global, definition_of, global, global_declared, within_global}
use Rattle.c_rules.specs.Objects.{Object}
use Rattle.c_rules.specs.Limits.{most_static_cells}
use Rattle.c_rules.specs.Scopes.{Env, layout_of}
use Rattle.c_check_scopes.specs.View.{before_of, env_of}
use Rattle.c_syntax.specs.UnitView.{maybe_init_of}
use Rattle.c_syntax.specs.View.{declarator_of, ident_of, spec_of}
use Rattle.c_tree.specs.Layout.{cells}
use Rattle.c_tree.specs.View.{static_of}
use Rattle.c_check_globals.proofs.objects.global_definition.Goals as goal

pub cells_of_object-requires : goal.cells_of_object-requires
cells_of_object-requires c =
    let b = before_of c.args.before.now in
    let o : Object = object_seen c.in_ok-object.object in
    subst (λ (e : Env). b.cells + cells (layout_of e) o.whole ≤ most_static_cells) (sym (ap env_of c.in_ok-object.ensures.kept))
    (within_limit (env_of c.args.env.now) b c.args.at (spec_of c.args.s.now) (declarator_of c.args.d.now) (ident_of c.args.x.now) (maybe_init_of c.args.m.now) o c.in_ok-object.ensures.declared c.in_ok-object.ensures.judged)

pub returns-in_err-object-clause-judged : goal.returns-in_err-object-clause-judged
returns-in_err-object-clause-judged c =
    let env : Env = env_of c.args.env.now in
    let x = ident_of c.args.x.now in
    let m = maybe_init_of c.args.m.now in
    let r : Checked Object = global_declared env true (before_of c.args.before.now) c.args.at (spec_of c.args.s.now) (declarator_of c.args.d.now) x m in
    raised (λ s. record { functions = []; statics = static_of s ∷ [] }) (global env true (before_of c.args.before.now) x m r) c.from_residual.result c.in_err-object.field-0.0 c.from_residual.ensures
    (names_on c.in_err-object.field-0.0 r (definition_of (within_global env true x r) (before_of c.args.before.now) m) c.in_err-object.ensures.judged)

pub returns-in_err-cells-clause-judged : goal.returns-in_err-cells-clause-judged
returns-in_err-cells-clause-judged c =
    let env : Env = env_of c.args.env.now in
    let x = ident_of c.args.x.now in
    let m = maybe_init_of c.args.m.now in
    let r : Checked Object = global_declared env true (before_of c.args.before.now) c.args.at (spec_of c.args.s.now) (declarator_of c.args.d.now) x m in
    let o : Object = object_seen c.in_ok-object.object in
    let first : Checked (List TypedExpression) = initialised_static (within_global (env_of c.global_declared.new.env) true x (fine o)) (after_object (env_of c.global_declared.new.env) (before_of c.args.before.now) o.whole) o.whole m in
    let second : Checked (List TypedExpression) = initialised_static (within_global env true x (fine o)) (after_object env (before_of c.args.before.now) o.whole) o.whole m in
    let moved : first ≡ second = λ i. initialised_static (within_global (env_of (c.in_ok-object.ensures.kept i)) true x (fine o)) (after_object (env_of (c.in_ok-object.ensures.kept i)) (before_of c.args.before.now) o.whole) o.whole m in
    raised (λ s. record { functions = []; statics = static_of s ∷ [] }) (global env true (before_of c.args.before.now) x m r) c.from_residual-in_err-cells.result c.in_err-cells.field-0.0 c.from_residual-in_err-cells.ensures
    (definition_fails env (before_of c.args.before.now) x m r o c.in_err-cells.field-0.0 c.in_ok-object.ensures.judged (same_named c.in_err-cells.field-0.0 first second moved c.in_err-cells.ensures.judged))

pub returns-clause-judged : goal.returns-clause-judged
returns-clause-judged c =
    let env : Env = env_of c.args.env.now in
    let x = ident_of c.args.x.now in
    let m = maybe_init_of c.args.m.now in
    let r : Checked Object = global_declared env true (before_of c.args.before.now) c.args.at (spec_of c.args.s.now) (declarator_of c.args.d.now) x m in
    let o : Object = object_seen c.in_ok-object.object in
    let first : Checked (List TypedExpression) = initialised_static (within_global (env_of c.global_declared.new.env) true x (fine o)) (after_object (env_of c.global_declared.new.env) (before_of c.args.before.now) o.whole) o.whole m in
    let second : Checked (List TypedExpression) = initialised_static (within_global env true x (fine o)) (after_object env (before_of c.args.before.now) o.whole) o.whole m in
    let moved : second ≡ first = λ i. initialised_static (within_global (env_of (sym c.in_ok-object.ensures.kept i)) true x (fine o)) (after_object (env_of (sym c.in_ok-object.ensures.kept i)) (before_of c.args.before.now) o.whole) o.whole m in
    definition_is env (before_of c.args.before.now) x m r o c.in_ok-cells.cells.items (static_of c.in_ok-static_object.field-0) c.in_ok-object.ensures.judged (moved ∙ c.in_ok-cells.ensures.judged) (search rules)

pub returns-clause-behind : goal.returns-clause-behind
returns-clause-behind c =
    let kept = c.in_ok-cells.ensures.kept ∙ ap env_of c.in_ok-object.ensures.kept in
    c.in_ok-declare_behind.ensures ∙ (λ i. behind_global (kept i) true (ident_of c.args.x.now) (sym c.in_ok-object.ensures.judged i))

pub returns-clause-counted : goal.returns-clause-counted
returns-clause-counted c =
    let m = maybe_init_of c.args.m.now in
    let o : Object = object_seen c.in_ok-object.object in
    c.in_ok-cells.ensures.counted
    ∙ ((λ i. past (after_object (env_of (c.in_ok-object.ensures.kept i)) (before_of c.args.before.now) o.whole) (calls_of_maybe_init m) (held_by (env_of (c.in_ok-object.ensures.kept i)) o.whole m))
    ∙ sym (ap (after_global (env_of c.args.env.now) (before_of c.args.before.now) m) c.in_ok-object.ensures.declared))
