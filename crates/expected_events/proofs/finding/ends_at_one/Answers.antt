use Rattle.std.proofs.Common.{◌≡◌, get_or, slice_get, Some, subst, sym, refl, arith}
use Rattle.std.proofs.lemmas.Bool.{false≢true, iff_false}
use Rattle.std.proofs.lemmas.List.{take_all}
use Rattle.expected_events.specs.Marked.{EndsAtOne}
use Rattle.expected_events.proofs.FindingLemmas.{function_here, ends_none, ends_yes, ends_more}
use Rattle.expected_events.proofs.finding.ends_at_one.Goals as goal
use Rattle.expected_events.proofs.finding.ends_at_one.Goals.{After-index-functions-function}

pub loop-function-init : goal.loop-function-init
loop-function-init c = ends_none c.args.model.now c.args.at.now

-- the function that is read
here : (c : After-index-functions-function) → slice_get c.args.model.now.functions (get_or c.args.functions.now c.loop-function.function-index 0) ≡ Some c.index-functions-function.result
here c = function_here c.args.model.now c.functions.result.now (get_or c.args.functions.now c.loop-function.function-index 0) c.index-functions-function.result c.functions.ensures (c.requires c.loop-function.function-index 0 c.loop-function-test.true) c.index-functions-function.is

pub returns-then-contains : goal.returns-then-contains
returns-then-contains c =
    (λ _. ends_yes c.args.model.now c.args.at.now c.args.functions.now c.loop-function.function-index c.index-functions-function.result c.loop-function-test.true (here (goal.at.returns-then-contains c).After-index-functions-function) (c.contains.ensures.0 c.if-contains.true), λ _. refl)

pub loop-function-preserved : goal.loop-function-preserved
loop-function-preserved c =
    ends_more c.args.model.now c.args.at.now c.args.functions.now c.loop-function.function-index c.index-functions-function.result c.loop-function-test.true (here (goal.at.loop-function-preserved c).After-index-functions-function) (iff_false c.contains.ensures c.if-contains.false) c.loop-function.invariant

pub returns : goal.returns
returns c = (
  λ e. absurd (false≢true e),
  λ ends. absurd (c.loop-function.invariant (subst (λ fs. EndsAtOne c.args.model.now c.args.at.now fs) (sym (take_all c.loop-function.function-index c.args.functions.now (omega arith))) ends)),
)
