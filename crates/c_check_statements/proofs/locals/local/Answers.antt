use Rattle.std.proofs.Common.{◌≤◌, OnOk, ap, subst, sym, ◌∙◌}
use Rattle.c_check_bodies.specs.Numbered.{next_of}
use Rattle.c_check_declarations.proofs.ObjectLemmas.{object_few}
use Rattle.c_check_declarations.specs.ObjectView.{object_seen}
use Rattle.c_check_declarations.proofs.Parts.{raised}
use Rattle.c_check_bodies.specs.StatementTreeView.{statement_tree_of}
use Rattle.c_rules.specs.Blocks.{held_by_object, local}
use Rattle.c_rules.specs.Limits.{most_cells}
use Rattle.c_rules.specs.Objects.{object_declared}
use Rattle.c_rules.specs.Scopes.{a_local, layout_of, with_name}
use Rattle.c_check_scopes.specs.declared.environment.Environment.{Environment}
use Rattle.c_check_scopes.specs.View.{before_of, env_of}
use Rattle.c_check_statements.proofs.DeclarationLemmas.{behind_is, local_is, name_fails, object_fails}
use Rattle.c_check_statements.proofs.NodeLemmas.{ok_as}
use Rattle.c_check_statements.specs.Ruled.{local_as}
use Rattle.c_check_bodies.specs.Scoped.{Declares}
use Rattle.c_check_declarations.specs.Agreement.{AgreesWith}
use Rattle.c_rules.specs.Checked.{met}
use Rattle.c_rules.specs.Counts.{past}
use Rattle.c_rules.specs.Initialisers.{calls_of_maybe_init, held_by}
use Rattle.c_rules.specs.Variables.{number_in}
use Rattle.c_syntax.specs.UnitView.{maybe_init_of}
use Rattle.c_syntax.specs.View.{declarator_of, ident_of, spec_of}
use Rattle.c_check_statements.proofs.locals.local.Goals as goal
use Rattle.c_tree.specs.Layout.{cells}

pub returns-in_err-new_name-clause-judged : goal.returns-in_err-new_name-clause-judged
returns-in_err-new_name-clause-judged c =
    raised statement_tree_of (local (env_of c.args.env.now) (before_of c.args.before.now) (next_of c.args.next) (ident_of c.args.x.now) (maybe_init_of c.args.m.now) (object_declared (env_of c.args.env.now) c.args.at (spec_of c.args.spec.now) (declarator_of c.args.d.now) (ident_of c.args.x.now) (maybe_init_of c.args.m.now))) c.from_residual.result c.in_err-new_name.field-0.0 c.from_residual.ensures (name_fails c.in_err-new_name.field-0.0 (env_of c.args.env.now) (before_of c.args.before.now) (next_of c.args.next) (ident_of c.args.x.now) (maybe_init_of c.args.m.now) (object_declared (env_of c.args.env.now) c.args.at (spec_of c.args.spec.now) (declarator_of c.args.d.now) (ident_of c.args.x.now) (maybe_init_of c.args.m.now)) c.in_err-new_name.ensures)

pub local_of-requires : goal.local_of-requires
local_of-requires c = record {
  few = subst (λ (e : Environment). cells (layout_of (env_of e)) (object_seen c.in_ok-object.object).whole ≤ most_cells) (sym c.in_ok-object.ensures.kept)
      (object_few (env_of c.args.env.now) c.args.at (spec_of c.args.spec.now) (declarator_of c.args.d.now) (ident_of c.args.x.now) (maybe_init_of c.args.m.now) (object_seen c.in_ok-object.object) c.in_ok-object.ensures.judged);
}

pub returns-in_err-object-clause-judged : goal.returns-in_err-object-clause-judged
returns-in_err-object-clause-judged c =
    let env = env_of c.args.env.now in
    let x = ident_of c.args.x.now in
    let m = maybe_init_of c.args.m.now in
    let b = before_of c.args.before.now in
    let next = next_of c.args.next in
    let r = object_declared env c.args.at (spec_of c.args.spec.now) (declarator_of c.args.d.now) x m in
    raised statement_tree_of (local env b next x m r) c.from_residual-in_err-object.result c.in_err-object.field-0.0 c.from_residual-in_err-object.ensures (object_fails c.in_err-object.field-0.0 env b next x m r c.in_err-object.ensures.judged)

pub returns : goal.returns
returns c = record {
  judged = let env = env_of c.args.env.now in
      let x = ident_of c.args.x.now in
      let m = maybe_init_of c.args.m.now in
      let b = before_of c.args.before.now in
      let next = next_of c.args.next in
      let o = object_seen c.in_ok-object.object in
      let r = object_declared env c.args.at (spec_of c.args.spec.now) (declarator_of c.args.d.now) x m in
      let k = c.number-number.result in
      subst (AgreesWith statement_tree_of c.local_of.result) ((λ i. local_as (env_of (c.in_ok-object.ensures.kept i)) b k x m o) ∙ local_is env next x k o r met c.in_ok-new_name.ensures c.in_ok-object.ensures.judged (c.number-number.ensures ∙ ap (number_in next) c.as_slice.ensures) b m) c.local_of.ensures.judged;
  counted = let env = env_of c.args.env.now in
      let x = ident_of c.args.x.now in
      let m = maybe_init_of c.args.m.now in
      let b = before_of c.args.before.now in
      let o = object_seen c.in_ok-object.object in
      ok_as c.local_of.result _ _ _ c.local_of.ensures.counted
      ((λ i. past b (calls_of_maybe_init m) (held_by (env_of (c.in_ok-object.ensures.kept i)) o.whole m)) ∙ ap (λ r. past b (calls_of_maybe_init m) (held_by_object env m r)) (sym c.in_ok-object.ensures.judged));
  meant = let env = env_of c.args.env.now in
      let x = ident_of c.args.x.now in
      let m = maybe_init_of c.args.m.now in
      let next = next_of c.args.next in
      let o = object_seen c.in_ok-object.object in
      let r = object_declared env c.args.at (spec_of c.args.spec.now) (declarator_of c.args.d.now) x m in
      let k = c.number-number.result in
      ok_as c.local_of.result _ _ _ c.local_of.ensures.meant
      ((λ i. with_name (env_of (c.in_ok-object.ensures.kept i)) x.name (a_local k o.whole o.whole)) ∙ behind_is env next x k o r met c.in_ok-new_name.ensures c.in_ok-object.ensures.judged (c.number-number.ensures ∙ ap (number_in next) c.as_slice.ensures));
  kept = subst (λ (e : Environment). OnOk c.local_of.result (Declares e c.local_of.new.env)) c.in_ok-object.ensures.kept c.local_of.ensures.kept;
}
