use Rattle.std.proofs.Common.{◌≡◌, Some, true, false, refl, ap, ◌∙◌}
use Rattle.certify_steps.proofs.CheckLemmas.{end_some, end_only, end_candidate}
use Rattle.certify_steps.proofs.checks.end_of_call.Goals as goal

pub returns-then-has_candidate-clause-some : goal.returns-then-has_candidate-clause-some
returns-then-has_candidate-clause-some c = end_some c.args.model.now c.args.site c.in-Some.call.now c.in-Some.ensures.some c.args.function c.to.result (c.if-has_candidate.ensures.0 refl) c.to.ensures

pub returns-then-has_candidate-clause-only : goal.returns-then-has_candidate-clause-only
returns-then-has_candidate-clause-only c = λ v is. ap Some (c.to.ensures ∙ end_only c.args.model.now c.args.site c.in-Some.call.now c.in-Some.ensures.some c.args.function v is)

pub returns-else-has_candidate-clause-only : goal.returns-else-has_candidate-clause-only
returns-else-has_candidate-clause-only c = λ v is. absurd (let both : false ≡ true = c.if-has_candidate.ensures.1 (end_candidate c.args.model.now c.args.site c.in-Some.call.now c.in-Some.ensures.some c.args.function v is) in cc)

pub returns-in-None-clause-only : goal.returns-in-None-clause-only
returns-in-None-clause-only c = λ v (a, call). absurd (c.in-None.ensures.none call.call call.has call.site)
