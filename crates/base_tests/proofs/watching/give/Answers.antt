use Rattle.std.proofs.Common.{sym, subst, arith}
use Rattle.base_tests.specs.Going.{IsGoing}
use Rattle.base_tests.proofs.watching.give.Goals as goal
use Rattle.base_tests.proofs.watching.give.Goals.{then-sweeps+in_ok-sweep, else-sweeps}

pub step-requires : goal.step-requires
step-requires g c =
    let (a, k, version, records, stands) = c.loop-one.invariant in
    (a, k, version, records, stands, (c.room.ensures a k version records stands).0 c.if-not-room.false, omega (arith, c.steps.ensures a k version records stands, c.if-steps-ge1000000.false))

pub returns-in_err-step : goal.returns-in_err-step
returns-in_err-step g c =
    let (a, k, version, records, stands) = c.loop-one.invariant in
    (a, k, version, records, c.in_err-step.ensures.err a k version records stands)

pub sweep-requires : goal.sweep-requires
sweep-requires g c =
    let (a, k, version, records, stands) = c.loop-one.invariant in
    (a, k, version, _, c.in_ok-step.ensures.stands a k version records stands)

pub returns-in_err-sweep : goal.returns-in_err-sweep
returns-in_err-sweep g c =
    let (a, k, version, records, stands) = c.loop-one.invariant in
    (a, k, version, _, c.sweep.ensures.stands a k version _ (c.in_ok-step.ensures.stands a k version records stands))

pub loop-one-preserved : goal.loop-one-preserved
loop-one-preserved g c =
    let (a, k, version, records, stands) = c.loop-one.invariant in
    let stepped = c.in_ok-step.ensures.stands a k version records stands in
    elim c.if-sweeps.branch [
      | then-sweeps+in_ok-sweep w ↦ subst (IsGoing g.M.Monitor) (sym w.watch-is) (a, k, version, _, w.sweep.ensures.stands a k version _ stepped)
      | else-sweeps w ↦ subst (IsGoing g.M.Monitor) (sym w.watch-is) (a, k, version, _, stepped)
    ]
