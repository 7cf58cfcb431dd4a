use Rattle.std.proofs.lemmas.Result.{on_ok_weaker}
use Rattle.stack_automaton.proofs.FollowingLemmas.{call_added}
use Rattle.stack_automaton.proofs.follow.call_one.Goals as goal

pub returns-clause-facts : goal.returns-clause-facts
returns-clause-facts c =
    on_ok_weaker c.return_one.result
    (call_added c.args.facts.now.keys c.enter_one.new.facts.keys c.return_one.new.facts.keys c.args.functions.now c.args.ended.now.keys c.args.link c.args.function c.in_ok-enter_one.ensures)
    c.return_one.ensures

pub returns-clause-links : goal.returns-clause-links
returns-clause-links c = on_ok_weaker c.return_one.result (λ _. c.in_ok-add.ensures) c.return_one.ensures
