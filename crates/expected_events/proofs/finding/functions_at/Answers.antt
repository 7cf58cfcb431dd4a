use Rattle.std.proofs.Common.{◌≡◌, length, ap, arith}
use Rattle.expected_events.specs.Marked.{OwnsOne}
use Rattle.expected_events.proofs.FindingLemmas.{owner_within}
use Rattle.expected_events.proofs.RisingLemmas.{rise_none, numbers_none, numbers_more, numbers_below, numbers_all}
use Rattle.expected_events.proofs.finding.functions_at.Goals as goal

pub loop-function-init : goal.loop-function-init
loop-function-init c = record {
  exact = numbers_none (OwnsOne c.args.model.now c.args.at.now) c.new-functions.result.items c.new-functions.ensures.items;
  rise = rise_none c.new-functions.result.items c.new-functions.ensures.items;
}

pub loop-function-preserved : goal.loop-function-preserved
loop-function-preserved c = record {
  exact = numbers_more (OwnsOne c.args.model.now c.args.at.now) c.loop-function.functions.items c.push_function.new.functions.items c.loop-function.function c.loop-function.invariant.exact c.in_ok-push_function.ensures.added;
  rise = c.in_ok-push_function.ensures.rise (numbers_below (OwnsOne c.args.model.now c.args.at.now) c.loop-function.functions.items c.loop-function.function c.loop-function.invariant.exact) c.loop-function.invariant.rise;
}

pub returns-clause-exact : goal.returns-clause-exact
returns-clause-exact c =
    let long : length c.functions-count.result.now ≡ length c.args.model.now.functions = ap length c.functions-count.ensures in
    numbers_all (OwnsOne c.args.model.now c.args.at.now) c.loop-function.functions.items c.loop-function.function
    (λ f owns. let within = owner_within c.args.model.now c.args.at.now f owns in omega (arith, within, long, c.loop-function-test.false)) c.loop-function.invariant.exact
