use Rattle.std.proofs.lemmas.Result.{on_ok_weaker}
use Rattle.stack_automaton.proofs.FollowingLemmas.{entry_added, function_at, no_function}
use Rattle.stack_automaton.proofs.follow.enter_one.Goals as goal

pub returns-in-Some : goal.returns-in-Some
returns-in-Some c =
    on_ok_weaker c.add_at.result
    (entry_added c.args.facts.now.keys c.add_at.new.facts.keys c.args.functions.now c.args.function c.in-Some.one.now
    (function_at c.args.functions.now c.args.function c.in-Some.one.now c.in-Some.ensures.lookup.0 c.in-Some.ensures.lookup.1))
    c.add_at.ensures

pub returns-in-None : goal.returns-in-None
returns-in-None c = no_function c.args.facts.now.keys c.args.functions.now c.args.function c.in-None.ensures.lookup.0
