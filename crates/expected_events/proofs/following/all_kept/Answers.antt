use Rattle.std.proofs.Common.{◌≡◌, ◌++◌, take, true≢false}
use Rattle.dm_base.specs.declared.verdict.Step.TheVariants.{Kept}
use Rattle.expected_events.proofs.RunsLemmas.{fed_refused}
use Rattle.expected_events.proofs.following.all_kept.Goals as goal

pub returns-then-ne-clause-exact : goal.returns-then-ne-clause-exact
returns-then-ne-clause-exact g c k h stands accepted =
    let t = c.args.events.now in
    let i = c.loop-event.event-index in
    let test = c.if-ne.ensures in
    let differs : c.in_ok-step.step ≡ Kept → ⊥ = λ kept. let same = rw kept at test in true≢false same in
    fed_refused g.M.Monitor.WHICH c.args.model.now k h t i c.event-item.result c.in_ok-step.step c.loop-event-test.true c.event-item.is differs (c.in_ok-step.ensures.exact k (h ++ take i t) (c.loop-event.invariant.stands k h stands))
