use Rattle.std.proofs.Common.{false, ap, sym, subst, ◌∙◌}
use Rattle.c_check_bodies.specs.Numbered.{next_of}
use Rattle.c_check_declarations.specs.Agreement.{Names}
use Rattle.c_check_declarations.proofs.Parts.{names_on, raised}
use Rattle.c_check_bodies.specs.StatementTreeView.{statement_trees_of}
use Rattle.c_rules.specs.Blocks.{alone}
use Rattle.c_rules.specs.Checked.{faults, fine, gives}
use Rattle.c_rules.specs.Statements.{items_of_block, stmt}
use Rattle.c_check_scopes.specs.View.{before_of, env_of}
use Rattle.c_check_expressions.proofs.Exits.{on_ok}
use Rattle.c_check_statements.proofs.NodeLemmas.{after_alone, alone_only, found_as}
use Rattle.c_syntax.specs.Tree.{block_stmt, no_block_items}
use Rattle.c_syntax.specs.UnitView.{stmt_of}
use Rattle.c_tree.specs.View.{ctype_of}
use Rattle.c_check_statements.proofs.bodies.one_statement.Goals as goal

pub returns-in_err-one-clause-judged : goal.returns-in_err-one-clause-judged
returns-in_err-one-clause-judged c =
    raised statement_trees_of (items_of_block (env_of c.args.env.now) (record { breaks = false; continues = false; returns = ctype_of c.args.returns.now }) (before_of c.args.before.now) (next_of c.args.next) (block_stmt (stmt_of c.args.s.now) no_block_items)) c.from_residual.result c.in_err-one.field-0.0 c.from_residual.ensures (subst (λ r. Names c.in_err-one.field-0.0 (faults r)) (sym (alone_only (env_of c.args.env.now) (record { breaks = false; continues = false; returns = ctype_of c.args.returns.now }) (before_of c.args.before.now) (next_of c.args.next) (stmt_of c.args.s.now))) (names_on c.in_err-one.field-0.0 (stmt (env_of c.args.env.now) (record { breaks = false; continues = false; returns = ctype_of c.args.returns.now }) (before_of c.args.before.now) (next_of c.args.next) (stmt_of c.args.s.now)) (λ p. fine (alone p)) c.in_err-one.ensures.judged))

pub returns : goal.returns
returns c = record {
  judged = found_as statement_trees_of c.all_found.result _ _ (alone_only (env_of c.args.env.now) (record { breaks = false; continues = false; returns = ctype_of c.args.returns.now }) (before_of c.args.before.now) (next_of c.args.next) (stmt_of c.args.s.now) ∙ ap (λ r. gives r alone) c.in_ok-one.ensures.judged) (c.all_found.ensures _ c.alone.ensures);
  counted = on_ok c.all_found.result _ (c.in_ok-one.ensures.counted ∙ after_alone (env_of c.args.env.now) (before_of c.args.before.now) (next_of c.args.next) (stmt_of c.args.s.now));
  kept = on_ok c.all_found.result _ c.in_ok-one.ensures.kept;
}
