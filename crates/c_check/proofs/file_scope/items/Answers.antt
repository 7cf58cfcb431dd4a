use Rattle.std.proofs.Common.{sym}
use Rattle.c_check_units.proofs.Parts.{raised}
use Rattle.c_check_units.specs.OutputView.{output_of}
use Rattle.c_check_globals.proofs.Loops.{item_more, item_fails, item_behind, item_after, items_end, past_end, counted_end}
use Rattle.c_rules.specs.Checked.{Checked}
use Rattle.c_rules.specs.Items.{Output, after_items, behind_items, items}
use Rattle.c_rules.specs.Scopes.{Env, Before}
use Rattle.c_check_statements.specs.View.{before_of, env_of}
use Rattle.c_syntax.specs.UnitView.{items_of}
use Rattle.c_check.proofs.file_scope.items.Goals as goal

pub loop-each-preserved : goal.loop-each-preserved
loop-each-preserved c =
    let all : Checked Output = items (env_of c.args.env.now) (before_of c.args.before.now) (items_of c.args.all.now) in
    let last : Env = behind_items (env_of c.args.env.now) (before_of c.args.before.now) (items_of c.args.all.now) in
    let left : Before = after_items (env_of c.args.env.now) (before_of c.args.before.now) (items_of c.args.all.now) in (
      item_more (env_of c.loop-each.env) (before_of c.loop-each.before) c.args.all.now c.loop-each.each-index c.each-item.result (env_of c.add_item.new.env) (before_of c.add_item.new.before) (output_of c.loop-each.into) (output_of c.add_item.new.into) all
          c.loop-each-test.true c.each-item.is c.loop-each.invariant.0 c.in_ok-add_item.ensures.judged c.in_ok-add_item.ensures.behind c.in_ok-add_item.ensures.counted,
      item_behind (env_of c.loop-each.env) (before_of c.loop-each.before) c.args.all.now c.loop-each.each-index c.each-item.result (env_of c.add_item.new.env) last (before_of c.add_item.new.before)
          c.loop-each-test.true c.each-item.is c.loop-each.invariant.1 c.in_ok-add_item.ensures.behind c.in_ok-add_item.ensures.counted,
      item_after (env_of c.loop-each.env) (before_of c.loop-each.before) c.args.all.now c.loop-each.each-index c.each-item.result (env_of c.add_item.new.env) (before_of c.add_item.new.before) left
          c.loop-each-test.true c.each-item.is c.loop-each.invariant.2 c.in_ok-add_item.ensures.behind c.in_ok-add_item.ensures.counted,
    )

pub returns-in_err-add_item-clause-judged : goal.returns-in_err-add_item-clause-judged
returns-in_err-add_item-clause-judged c =
    let all : Checked Output = items (env_of c.args.env.now) (before_of c.args.before.now) (items_of c.args.all.now) in
    raised output_of all c.from_residual.result c.in_err-add_item.field-0.0 c.from_residual.ensures
    (item_fails (env_of c.loop-each.env) (before_of c.loop-each.before) c.args.all.now c.loop-each.each-index c.each-item.result c.in_err-add_item.field-0.0 (output_of c.loop-each.into) all c.loop-each-test.true c.each-item.is c.loop-each.invariant.0 c.in_err-add_item.ensures.judged)

pub returns-clause-judged : goal.returns-clause-judged
returns-clause-judged c =
    items_end (env_of c.loop-each.env) (before_of c.loop-each.before) c.args.all.now c.loop-each.each-index (output_of c.loop-each.into) (items (env_of c.args.env.now) (before_of c.args.before.now) (items_of c.args.all.now)) c.loop-each-test.false c.loop-each.invariant.0

pub returns-clause-behind : goal.returns-clause-behind
returns-clause-behind c =
    sym (past_end (env_of c.loop-each.env) (before_of c.loop-each.before) c.args.all.now c.loop-each.each-index (behind_items (env_of c.args.env.now) (before_of c.args.before.now) (items_of c.args.all.now)) c.loop-each-test.false c.loop-each.invariant.1)

pub returns-clause-counted : goal.returns-clause-counted
returns-clause-counted c =
    sym (counted_end (env_of c.loop-each.env) (before_of c.loop-each.before) c.args.all.now c.loop-each.each-index (after_items (env_of c.args.env.now) (before_of c.args.before.now) (items_of c.args.all.now)) c.loop-each-test.false c.loop-each.invariant.2)
