use Rattle.std.proofs.Common.{rules, ◌≡◌, Some}
use Rattle.std.proofs.lemmas.Result.{on_ok_weaker}
use Rattle.slab.specs.Slab.{get}
use Rattle.stack_automaton.proofs.FollowingLemmas.{back_added, no_end}
use Rattle.stack_automaton.proofs.follow.follow_back.Goals as goal

pub returns-in-Some-get : goal.returns-in-Some-get
returns-in-Some-get c =
    let at : get c.args.states.now c.in-Held.key ≡ Some c.edges.result.now = search rules in
    on_ok_weaker c.return_along_each.result (back_added c.args.facts.now.keys c.return_along_each.new.facts.keys c.args.model.now (get c.args.states.now) c.args.fact c.in-Held.key c.edges.result.now c.in-Held.is at) c.return_along_each.ensures

pub returns-in_default : goal.returns-in_default
returns-in_default c = no_end c.args.facts.now.keys c.args.model.now (get c.args.states.now) c.args.fact c.in_default.ensures.none
