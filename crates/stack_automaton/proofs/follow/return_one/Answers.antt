use Rattle.std.proofs.Common.{rules, ◌≡◌, Contains}
use Rattle.std.proofs.lemmas.Result.{on_ok_weaker}
use Rattle.stack_automaton.proofs.FollowingLemmas.{added_if}
use Rattle.stack_automaton.proofs.follow.return_one.Goals as goal

pub returns-then-has_ended : goal.returns-then-has_ended
returns-then-has_ended c =
    let holds : Contains c.args.ended.now.keys c.args.function = search rules in
    on_ok_weaker c.add_at.result (added_if c.args.facts.now.keys c.add_at.new.facts.keys (Contains c.args.ended.now.keys c.args.function) (λ y. y ≡ record { node = c.args.to; place = c.args.place }) holds) c.add_at.ensures
