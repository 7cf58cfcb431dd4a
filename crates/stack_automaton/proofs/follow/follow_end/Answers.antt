use Rattle.std.proofs.lemmas.Result.{on_ok_weaker}
use Rattle.stack_automaton.proofs.FollowingLemmas.{end_followed}
use Rattle.stack_automaton.proofs.follow.follow_end.Goals as goal

pub returns-in-Some : goal.returns-in-Some
returns-in-Some c =
    on_ok_weaker c.return_to_each.result
    (end_followed c.args.facts.now.keys c.return_to_each.new.facts.keys c.args.functions.now c.args.links.now c.args.fact c.in-Some.function c.of.result.now c.in-Some.ensures.some c.of.ensures)
    c.return_to_each.ensures
