use Rattle.std.proofs.Common.{◌≡◌, ℕ, true, false, get_or}
use Rattle.std.proofs.lemmas.List.{get_or_default}
use Rattle.certify_steps.specs.Reading.{BeginsAt}
use Rattle.certify_steps.proofs.AddingLemmas.{none_more, none_all}
use Rattle.certify_steps.proofs.checks.does_one_begin_at.Goals as goal

pub loop-function-preserved : goal.loop-function-preserved
loop-function-preserved c =
    let x : ℕ = get_or c.args.candidates.now c.loop-function.function-index 0 in
    let same : x ≡ get_or c.args.candidates.now c.loop-function.function-index x = get_or_default c.args.candidates.now c.loop-function.function-index 0 x c.loop-function-test.true in
    none_more (λ f. BeginsAt c.args.functions.now f c.args.node) c.args.candidates.now c.loop-function.function-index x c.loop-function-test.true same c.loop-function.invariant
    (λ begins. let both : false ≡ true = c.if-begins_at.ensures.1 begins in absurd cc)

pub returns : goal.returns
returns c = (
  λ holds. absurd cc,
  λ has. absurd (none_all (λ f. BeginsAt c.args.functions.now f c.args.node) c.args.candidates.now c.loop-function.function-index c.loop-function-test.false c.loop-function.invariant has),
)
