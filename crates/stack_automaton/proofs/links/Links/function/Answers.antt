use Rattle.std.proofs.Common.{◌∙◌, ap}
use Rattle.stack_automaton.specs.Links.{Links}
use Rattle.stack_automaton.proofs.LinksLemmas.{function_there, function_past}
use Rattle.stack_automaton.proofs.links.Links.function.Goals as goal

pub returns-in-Some : goal.returns-in-Some
returns-in-Some c =
    function_there c.deref.result.now c.args.self.now.lists c.args.place c.function.result c.in-Some.entered.now (c.deref.ensures.value ∙ ap (λ (s : Links). s.lists) c.self.view_is) c.in-Some.ensures.lookup.3.0 c.in-Some.ensures.lookup.1 c.function.ensures

pub returns-in-None : goal.returns-in-None
returns-in-None c = function_past c.deref.result.now c.args.self.now.lists c.args.place (c.deref.ensures.value ∙ ap (λ (s : Links). s.lists) c.self.view_is) c.in-None.ensures.lookup.3
