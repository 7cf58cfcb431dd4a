use Rattle.std.proofs.Common.{rules, ◌≡◌, true, false, refl, sym, subst}
use Rattle.std.proofs.lemmas.Result.{on_ok_weaker}
use Rattle.dm_base.specs.Adding.{Has}
use Rattle.stack_automaton.specs.Following.{EndsAt}
use Rattle.dm_base.proofs.AddingLemmas.{adds_nothing}
use Rattle.stack_automaton.proofs.FollowingLemmas.{site_returned, site_not_returned}
use Rattle.stack_automaton.proofs.follow.return_along.Goals as goal

pub returns-then-is_exit_of_one : goal.returns-then-is_exit_of_one
returns-then-is_exit_of_one c =
    let ends : Has (EndsAt c.functions.result.now c.args.node) c.candidates.result.now = search rules in
    let ends : Has (EndsAt c.args.model.now.functions c.args.node) c.candidates.result.now = subst (λ fs. Has (EndsAt fs c.args.node) c.candidates.result.now) c.functions.ensures ends in
    on_ok_weaker c.add_at.result
    (site_returned c.args.model.now c.args.edge.label c.in-Some.call.now c.in-Some.ensures.some c.args.facts.now.keys c.add_at.new.facts.keys c.args.model.now.functions c.args.node c.args.edge c.candidates.result.now c.to.result refl c.candidates.ensures c.to.ensures ends)
    c.add_at.ensures

pub returns-else-is_exit_of_one : goal.returns-else-is_exit_of_one
returns-else-is_exit_of_one c =
    site_not_returned c.args.model.now c.args.edge.label c.in-Some.call.now c.in-Some.ensures.some c.args.facts.now.keys c.args.model.now.functions c.args.node c.args.edge c.candidates.result.now refl c.candidates.ensures
    (λ ends. let both : false ≡ true = c.if-is_exit_of_one.ensures.1 (subst (λ fs. Has (EndsAt fs c.args.node) c.candidates.result.now) (sym c.functions.ensures) ends) in absurd cc)

pub returns-in_default : goal.returns-in_default
returns-in_default c = adds_nothing c.args.facts.now.keys _ (λ y (d, has, (is, some, y_is)). c.in_default.ensures.none d has is)
