use Rattle.std.proofs.Common.{ap, subst, sym, ◌∙◌}
use Rattle.c_check_bodies.specs.Scoped.{Declares}
use Rattle.c_check_bodies.specs.StatementTreeView.{statement_tree_of}
use Rattle.c_check_expressions.proofs.Exits.{on_ok}
use Rattle.c_check_expressions.specs.CellView.{cells_of}
use Rattle.c_check_scopes.specs.declared.environment.Environment.{Environment}
use Rattle.c_check_statements.proofs.NodeLemmas.{found_as}
use Rattle.c_rules.specs.Blocks.{laid_variable}
use Rattle.c_rules.specs.Checked.{fine, gives}
use Rattle.c_check_declarations.specs.ObjectView.{object_seen}
use Rattle.c_rules.specs.Scopes.{a_local, with_name}
use Rattle.c_check_scopes.specs.View.{before_of, env_of}
use Rattle.c_check_statements.proofs.LocalLemmas.{cells_few}
use Rattle.c_check_statements.proofs.locals.local_of.Goals as goal
use Rattle.c_syntax.specs.UnitView.{maybe_init_of}
use Rattle.c_syntax.specs.View.{ident_of}

pub laid_variable-requires : goal.laid_variable-requires
laid_variable-requires c = record {
  few = cells_few (env_of c.args.env.now) (ident_of c.args.x.now).name (a_local c.args.number (object_seen c.args.o).seen (object_seen c.args.o).whole) (before_of c.args.before.now) (object_seen c.args.o).whole (maybe_init_of c.args.m.now) c.in_ok-cells.cells.items
      c.have_cells_of_members.ensures c.in_ok-cells.ensures.judged c.requires.few;
}

pub returns : goal.returns
returns c = record {
  judged = let whole = (object_seen c.args.o).whole in
      found_as statement_tree_of c.found.result _ _
      (ap (λ r. gives r (laid_variable (ident_of c.args.x.now).name c.args.number whole)) c.in_ok-cells.ensures.judged ∙ ap (λ n. fine (laid_variable n c.args.number whole (cells_of c.in_ok-cells.cells))) (sym c.as_slice-name.ensures))
      (c.found.ensures _ c.laid_variable.ensures);
  counted = on_ok c.found.result _ c.in_ok-cells.ensures.counted;
  meant = let whole = (object_seen c.args.o).whole in
      on_ok c.found.result _ (c.in_ok-declare_variable.ensures.meant ∙ (λ i. with_name (env_of (c.in_ok-cells.ensures.kept i)) (c.as_slice-name.ensures i) (a_local c.args.number whole whole)));
  kept = on_ok c.found.result _ (subst (λ (e : Environment). Declares e c.declare_variable.new.env) c.in_ok-cells.ensures.kept c.in_ok-declare_variable.ensures.kept);
}
