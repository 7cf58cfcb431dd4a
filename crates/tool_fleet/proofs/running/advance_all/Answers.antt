use Rattle.std.proofs.Common.{◌≡◌, ℕ, List, map, take, subst, arith}
use Rattle.std.proofs.lemmas.List.{take_all}
use Rattle.fleet.specs.Fleets.{StandsFor}
use Rattle.tool_fleet.specs.Inputs.{member_after}
use Rattle.tool_fleet.proofs.MemberLemmas.{advance_more, named_pid}
use Rattle.tool_fleet.proofs.running.advance_all.Goals as goal

pub step-requires-clause-there : goal.step-requires-clause-there
step-requires-clause-there g c =
    let (groups, processes, stands, named) = c.requires.there in (
      groups,
      map (member_after (take c.loop-pid.pid-index c.args.order.now)) processes,
      c.loop-pid.invariant.stands groups processes stands,
      named_pid c.args.order.now (take c.loop-pid.pid-index c.args.order.now) processes c.loop-pid.pid-index named c.loop-pid-test.true,
    )

pub step-requires-clause-few : goal.step-requires-clause-few
step-requires-clause-few g c = omega (arith, c.loop-pid.invariant.counted, c.requires.few, c.loop-pid-test.true)

pub loop-pid-preserved : goal.loop-pid-preserved
loop-pid-preserved g c = record {
  stands = λ groups processes stands.
      advance_more g.M.Monitor c.step.new.self groups processes c.args.order.now c.loop-pid.pid-index c.loop-pid-test.true
      (c.in_ok-step.ensures.progress groups (map (member_after (take c.loop-pid.pid-index c.args.order.now)) processes) (c.loop-pid.invariant.stands groups processes stands));
  counted = omega (arith, c.in_ok-step.ensures.counted, c.loop-pid.invariant.counted);
}

pub returns : goal.returns
returns g c = λ groups processes stands.
    let whole : take c.loop-pid.pid-index c.args.order.now ≡ c.args.order.now = take_all c.loop-pid.pid-index c.args.order.now (omega arith) in
    subst (λ (order : List ℕ). StandsFor g.M.Monitor c.loop-pid.fleet groups (map (member_after order) processes)) whole (c.loop-pid.invariant.stands groups processes stands)
