use Rattle.std.proofs.Common.{◌≡◌, take, true≢false}
use Rattle.dm_base.specs.declared.verdict.Step.TheVariants.{Kept}
use Rattle.expected_events.proofs.FollowedLemmas.{followed_part, followed_whole, rest_item, rest_end}
use Rattle.expected_events.proofs.following.follow_on.Goals as goal

pub returns-then-ne : goal.returns-then-ne
returns-then-ne g c k kept =
    let model = c.args.model.now in
    let t = c.args.events.now in
    let n = c.loop-event.kept in
    let e = c.event-item.result in
    let before = c.loop-event.invariant.kept k kept in
    let item = rest_item t c.args.kept c.loop-event.event-index n e c.loop-event.invariant.at c.loop-event-test.true c.event-item.is in
    let test = c.if-ne.ensures in
    let differs : c.in_ok-step.step ≡ Kept → ⊥ = λ kept. let same = rw kept at test in true≢false same in
    followed_part (g.M.Monitor.stands c.take_kept.new.monitor c.take_kept.new.pool model k) g.M.Monitor.WHICH model k t n e item.0 item.1 (c.in_ok-step.ensures.refused k (take n t) differs before.stands) before.accepted c.verdict_at.result c.in_ok-step.step c.verdict_at.ensures differs (c.in_ok-step.ensures.exact k (take n t) before.stands)

pub returns : goal.returns
returns g c k kept =
    let model = c.args.model.now in
    let t = c.args.events.now in
    let n = c.loop-event.kept in
    followed_whole (g.M.Monitor.stands c.loop-event.monitor c.loop-event.pool model k) g.M.Monitor.WHICH model k t n c.verdict_at-2.result c.verdict_at-2.ensures (c.loop-event.invariant.kept k kept) (rest_end t c.args.kept c.loop-event.event-index n c.loop-event.invariant.at c.loop-event-test.false)
