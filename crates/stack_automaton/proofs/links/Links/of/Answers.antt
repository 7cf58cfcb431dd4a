use Rattle.std.proofs.Common.{◌∙◌, ap}
use Rattle.stack_automaton.specs.Links.{Links}
use Rattle.stack_automaton.proofs.LinksLemmas.{calls_there, no_calls_there}
use Rattle.stack_automaton.proofs.links.Links.of.Goals as goal

pub returns-in-Some : goal.returns-in-Some
returns-in-Some c =
    calls_there c.deref.result.now c.args.self.now.lists c.args.function c.place.result c.in-Some.entered.now c.calls.result.now (c.deref.ensures.value ∙ ap (λ (s : Links). s.lists) c.self.view_is) c.place.ensures c.in-Some.ensures.lookup.3.0 c.in-Some.ensures.lookup.1 c.calls.ensures

pub returns-in-None : goal.returns-in-None
returns-in-None c = no_calls_there c.deref.result.now c.args.self.now.lists c.args.function c.place.result (c.deref.ensures.value ∙ ap (λ (s : Links). s.lists) c.self.view_is) c.place.ensures c.in-None.ensures.lookup.3
