use Rattle.std.proofs.Common.{Contains, subst}
use Rattle.std.proofs.lemmas.Result.{on_ok_weaker}
use Rattle.slab.specs.Slab.{get}
use Rattle.dm_base.specs.Adding.{Adds, Gains}
use Rattle.stack_automaton.specs.Following.{IsEnd, IsAfterEnd}
use Rattle.stack_automaton.proofs.FollowingLemmas.{step_added}
use Rattle.stack_automaton.proofs.follow.follow_fact.Goals as goal

pub returns-clause-ended : goal.returns-clause-ended
returns-clause-ended c =
    on_ok_weaker c.follow_back.result
    (λ _. subst (λ fs. Gains (Contains c.args.ended.now.keys) (Contains c.note_end.new.ended.keys) (λ f. IsEnd fs f c.args.fact)) c.functions-functions.ensures c.in_ok-note_end.ensures) c.follow_back.ensures

pub returns-clause-links : goal.returns-clause-links
returns-clause-links c = on_ok_weaker c.follow_back.result (λ _. c.in_ok-follow_calls.ensures.links) c.follow_back.ensures

pub returns-clause-facts : goal.returns-clause-facts
returns-clause-facts c =
    on_ok_weaker c.follow_back.result
    (step_added c.args.model.now (get c.args.states.now) c.follow_calls.new.links c.note_end.new.ended.keys c.args.fact c.args.facts.now.keys c.follow_calls.new.facts.keys c.follow_end.new.facts.keys c.follow_silent.new.facts.keys c.follow_back.new.facts.keys
    c.in_ok-follow_calls.ensures.facts (subst (λ fs. Adds c.follow_calls.new.facts.keys c.follow_end.new.facts.keys (IsAfterEnd fs c.follow_calls.new.links c.args.fact)) c.functions-functions.ensures c.in_ok-follow_end.ensures) c.in_ok-follow_silent.ensures)
    c.follow_back.ensures
