use Rattle.std.proofs.Common.{◌≡◌, ◌+◌, ◌≤◌, List, ap, sym, subst, ◌∙◌}
use Rattle.std.specs.Prelude.{true}
use Rattle.c_check_units.proofs.Parts.{raised}
use Rattle.c_check_globals.proofs.Moves.{held_by_same, named_within, same_within, same_named}
use Rattle.c_check_units.specs.Scoped.{IsWithin}
use Rattle.c_check_expressions.specs.CellView.{typed_expressions_of}
use Rattle.c_check_declarations.specs.ObjectView.{object_seen}
use Rattle.c_rules.specs.Checked.{Checked, fine}
use Rattle.c_rules.specs.Counts.{past}
use Rattle.c_rules.specs.TypedExpression.{TypedExpression}
use Rattle.c_rules.specs.Initialisers.{calls_of_maybe_init, held_by, initialised_static}
use Rattle.c_rules.specs.Items.{after_object, seen_of_global, within_global}
use Rattle.c_rules.specs.Limits.{most_static_cells}
use Rattle.c_rules.specs.Scopes.{Env, Before, layout_of, meaning_or_unknown}
use Rattle.c_check_scopes.specs.View.{before_of, env_of}
use Rattle.c_syntax.specs.UnitView.{maybe_init_of}
use Rattle.c_syntax.specs.View.{ident_of}
use Rattle.c_tree.specs.Layout.{cells}
use Rattle.c_tree.specs.View.{ctype_of}
use Rattle.c_check_globals.proofs.objects.cells_of_object.Goals as goal

pub count_object-requires : goal.count_object-requires
count_object-requires c =
    subst (λ (e : Env). (before_of c.args.before.now).cells + cells (layout_of e) (ctype_of c.args.o.now.whole) ≤ most_static_cells) (sym c.in_ok-declare_within.ensures) c.requires

pub returns-in_err-cells-clause-judged : goal.returns-in_err-cells-clause-judged
returns-in_err-cells-clause-judged c =
    let env : Env = env_of c.args.env.now in
    let within : Env = within_global env true (ident_of c.args.x.now) (fine (object_seen c.args.o.now)) in
    let b : Before = after_object env (before_of c.args.before.now) (ctype_of c.args.o.now.whole) in
    let into : env_of c.declare_within.new.env ≡ within = c.in_ok-declare_within.ensures in
    let counted : before_of c.count_object.new.before ≡ b = c.in_ok-count_object.ensures ∙ ap (λ e. after_object e (before_of c.args.before.now) (ctype_of c.args.o.now.whole)) into in
    let found : Checked (List TypedExpression) = initialised_static within b (ctype_of c.args.o.now.whole) (maybe_init_of c.args.m.now) in
    raised (λ v. typed_expressions_of v.items) found c.from_residual-in_err-cells.result c.in_err-cells.field-0.0 c.from_residual-in_err-cells.ensures
    (same_named c.in_err-cells.field-0.0 (initialised_static (env_of c.declare_within.new.env) (before_of c.count_object.new.before) (ctype_of c.args.o.now.whole) (maybe_init_of c.args.m.now)) found
    (λ i. initialised_static (into i) (counted i) (ctype_of c.args.o.now.whole) (maybe_init_of c.args.m.now)) c.in_err-cells.ensures.judged)

pub returns-clause-judged : goal.returns-clause-judged
returns-clause-judged c =
    let env : Env = env_of c.args.env.now in
    let within : Env = within_global env true (ident_of c.args.x.now) (fine (object_seen c.args.o.now)) in
    let b : Before = after_object env (before_of c.args.before.now) (ctype_of c.args.o.now.whole) in
    let into : env_of c.declare_within.new.env ≡ within = c.in_ok-declare_within.ensures in
    let counted : before_of c.count_object.new.before ≡ b = c.in_ok-count_object.ensures ∙ ap (λ e. after_object e (before_of c.args.before.now) (ctype_of c.args.o.now.whole)) into in
    (λ i. initialised_static (sym into i) (sym counted i) (ctype_of c.args.o.now.whole) (maybe_init_of c.args.m.now)) ∙ c.in_ok-cells.ensures.judged

pub returns-clause-kept : goal.returns-clause-kept
returns-clause-kept c =
    let env : Env = env_of c.args.env.now in
    let x = ident_of c.args.x.now in
    let inner : IsWithin (env_of c.declare_within.new.env) env = named_within (env_of c.declare_within.new.env) env x.name (meaning_or_unknown (seen_of_global env true x (fine (object_seen c.args.o.now)))) c.in_ok-declare_within.ensures in
    c.leave.ensures env (same_within (env_of c.initialised_static.new.env) (env_of c.declare_within.new.env) env (ap env_of c.in_ok-cells.ensures.kept) inner) c.count_names-count.ensures (sym c.in_ok-depth.ensures)

pub returns-clause-counted : goal.returns-clause-counted
returns-clause-counted c =
    let env : Env = env_of c.args.env.now in
    let within : Env = within_global env true (ident_of c.args.x.now) (fine (object_seen c.args.o.now)) in
    let b : Before = after_object env (before_of c.args.before.now) (ctype_of c.args.o.now.whole) in
    let into : env_of c.declare_within.new.env ≡ within = c.in_ok-declare_within.ensures in
    let counted : before_of c.count_object.new.before ≡ b = c.in_ok-count_object.ensures ∙ ap (λ e. after_object e (before_of c.args.before.now) (ctype_of c.args.o.now.whole)) into in
    let held : held_by (env_of c.declare_within.new.env) (ctype_of c.args.o.now.whole) (maybe_init_of c.args.m.now) ≡ held_by env (ctype_of c.args.o.now.whole) (maybe_init_of c.args.m.now) = held_by_same (env_of c.declare_within.new.env) env (ctype_of c.args.o.now.whole) (maybe_init_of c.args.m.now) (ap (λ e. e.structs) into) in
    c.in_ok-cells.ensures.counted ∙ (λ i. past (counted i) (calls_of_maybe_init (maybe_init_of c.args.m.now)) (held i))
