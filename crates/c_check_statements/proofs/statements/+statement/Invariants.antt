use Rattle.std.proofs.Common.{◌≡◌, drop}
use Rattle.c_check_bodies.specs.Numbered.{HaveNumbers, next_of}
use Rattle.c_check_bodies.specs.AroundView.{around_of}
use Rattle.c_check_bodies.specs.LabelledView.{labelled_of}
use Rattle.c_check_bodies.specs.StatementTreeView.{statement_trees_of}
use Rattle.c_check_bodies.specs.Scoped.{Declares}
use Rattle.c_rules.specs.Blocks.{held_by_block, held_by_groups, held_by_stmts}
use Rattle.c_rules.specs.Counts.{past}
use Rattle.c_rules.specs.Statements.{groups_of_switch, items_of_block, stmts}
use Rattle.c_rules.specs.Variables.{calls_of_block, calls_of_groups, calls_of_stmts, names_of_block, names_of_groups, names_of_stmts, past_names}
use Rattle.c_check_scopes.specs.View.{before_of, env_of}
use Rattle.c_check_statements.proofs.StatementLemmas.{onto_laid}
use Rattle.c_check_statements.proofs.SwitchLemmas.{onto_groups}
use Rattle.c_check_statements.proofs.statements.+statement.Given as goal
use Rattle.c_syntax.specs.WritesUnit.{block_items_of, groups_of, stmts_of}

abbrev pub invariant-items_of_block-loop-item : goal.invariant-items_of_block-loop-item
invariant-items_of_block-loop-item l = record {
  judged : items_of_block (env_of l.fn.env) (around_of l.around) (before_of l.fn.before) (next_of l.fn.next) (block_items_of l.items)
      ≡ onto_laid (statement_trees_of l.laid) (items_of_block (env_of l.env) (around_of l.around) (before_of l.before) (next_of l.next) (block_items_of (drop l.item-index l.items)));
  counted : past (before_of l.fn.before) (calls_of_block (block_items_of l.items)) (held_by_block (env_of l.fn.env) (next_of l.fn.next) (block_items_of l.items))
      ≡ past (before_of l.before) (calls_of_block (block_items_of (drop l.item-index l.items))) (held_by_block (env_of l.env) (next_of l.next) (block_items_of (drop l.item-index l.items)));
  numbered : past_names (next_of l.fn.next) (names_of_block (block_items_of l.items)) ≡ past_names (next_of l.next) (names_of_block (block_items_of (drop l.item-index l.items)));
  left : HaveNumbers (next_of l.next) (names_of_block (block_items_of (drop l.item-index l.items)));
  kept : Declares l.fn.env l.env;
}

abbrev pub invariant-statements-loop-s : goal.invariant-statements-loop-s
invariant-statements-loop-s l = record {
  judged : stmts (env_of l.fn.env) (around_of l.around) (before_of l.fn.before) (next_of l.fn.next) (stmts_of l.ss)
      ≡ onto_laid (statement_trees_of l.laid) (stmts (env_of l.fn.env) (around_of l.around) (before_of l.before) (next_of l.next) (stmts_of (drop l.s-index l.ss)));
  counted : past (before_of l.fn.before) (calls_of_stmts (stmts_of l.ss)) (held_by_stmts (env_of l.fn.env) (next_of l.fn.next) (stmts_of l.ss))
      ≡ past (before_of l.before) (calls_of_stmts (stmts_of (drop l.s-index l.ss))) (held_by_stmts (env_of l.fn.env) (next_of l.next) (stmts_of (drop l.s-index l.ss)));
  numbered : past_names (next_of l.fn.next) (names_of_stmts (stmts_of l.ss)) ≡ past_names (next_of l.next) (names_of_stmts (stmts_of (drop l.s-index l.ss)));
  left : HaveNumbers (next_of l.next) (names_of_stmts (stmts_of (drop l.s-index l.ss)));
  kept : l.env ≡ l.fn.env;
}

abbrev pub invariant-groups_of_switch-loop-group : goal.invariant-groups_of_switch-loop-group
invariant-groups_of_switch-loop-group l = record {
  judged : groups_of_switch (env_of l.fn.env) (around_of l.around) (before_of l.fn.before) (next_of l.fn.next) l.i (groups_of l.groups)
      ≡ onto_groups (labelled_of l.laid) (groups_of_switch (env_of l.fn.env) (around_of l.around) (before_of l.before) (next_of l.next) l.i (groups_of (drop l.group-index l.groups)));
  counted : past (before_of l.fn.before) (calls_of_groups (groups_of l.groups)) (held_by_groups (env_of l.fn.env) (next_of l.fn.next) (groups_of l.groups))
      ≡ past (before_of l.before) (calls_of_groups (groups_of (drop l.group-index l.groups))) (held_by_groups (env_of l.fn.env) (next_of l.next) (groups_of (drop l.group-index l.groups)));
  numbered : past_names (next_of l.fn.next) (names_of_groups (groups_of l.groups)) ≡ past_names (next_of l.next) (names_of_groups (groups_of (drop l.group-index l.groups)));
  left : HaveNumbers (next_of l.next) (names_of_groups (groups_of (drop l.group-index l.groups)));
  kept : l.env ≡ l.fn.env;
}
