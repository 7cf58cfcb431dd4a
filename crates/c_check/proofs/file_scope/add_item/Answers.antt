use Rattle.std.specs.Prelude.{false}
use Rattle.c_check.proofs.Within.{tagged}
use Rattle.c_rules.specs.Items.{behind_by_form}
use Rattle.c_rules.specs.Tags.{tags_of_item}
use Rattle.c_check_statements.specs.View.{before_of, env_of}
use Rattle.c_syntax.specs.Tree.{Item}
use Rattle.c_syntax.specs.UnitView.{item_at}
use Rattle.c_check.proofs.file_scope.add_item.Goals as goal

pub returns-clause-behind : goal.returns-clause-behind
returns-clause-behind c =
    let i : Item = item_at c.args.each.now.at c.args.each.now.kind in
    tagged c.add_by_form.new.env (behind_by_form (env_of c.args.env.now) (before_of c.args.before.now) i) c.push_tags.new.into (tags_of_item false i) c.in_ok-add_by_form.ensures.behind c.in_ok-push_tags.ensures
