use Rattle.std.proofs.Common.{◌≡◌, ap, sym, ◌∙◌, subst}
use Rattle.std.proofs.lemmas.Option.{IfSome_then, slice_get_within}
use Rattle.flow_model.specs.Ends.{EndsAt}
use Rattle.flow_model.specs.Graph.{Graph}
use Rattle.flow_model.proofs.OwnersLemmas.{function_of_end, end_of_function}
use Rattle.flow_model.proofs.model.Model.function_that_ends_at.Goals as goal
use Rattle.flow_model.proofs.model.Model.function_that_ends_at.Goals.{After-function_ending_at}

-- the functions that are searched are the model's
same : (c : After-function_ending_at) → c.deref.result.now ≡ c.args.self.now.functions
same c = c.deref.ensures.value ∙ ap (λ (g : Graph). g.functions) c.self.view_is

pub returns-clause-some : goal.returns-clause-some
returns-clause-some c = IfSome_then c.function_ending_at.result c.function_ending_at.ensures.some (λ f ends. function_of_end c.args.self.now f c.args.node (subst (λ fs. EndsAt fs f c.args.node) (same c) ends))

pub returns-clause-known : goal.returns-clause-known
returns-clause-known c = IfSome_then c.function_ending_at.result c.function_ending_at.ensures.some (λ f ends. let here = subst (λ fs. EndsAt fs f c.args.node) (same c) ends in slice_get_within c.args.self.now.functions f here.one here.has)

pub returns-clause-only : goal.returns-clause-only
returns-clause-only c = λ f entry has. c.function_ending_at.ensures.only f (subst (λ fs. EndsAt fs f c.args.node) (sym (same c)) (end_of_function c.args.self.now f entry c.args.node has))
