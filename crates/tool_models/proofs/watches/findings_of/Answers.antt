use Rattle.std.proofs.Common.{◌≡◌, ℕ, List, take, get_or, ap, ◌∙◌, subst, arith}
use Rattle.std.proofs.lemmas.List.{take_all}
use Rattle.watch.specs.Own.{own}
use Rattle.tool_models.specs.Found.{AreFound}
use Rattle.tool_models.specs.Watched.{asked_about}
use Rattle.tool_models.proofs.FoundLemmas.{found_nothing, found_next, has_record_at, same_at}
use Rattle.tool_models.proofs.watches.findings_of.Goals as goal

pub loop-pid-init : goal.loop-pid-init
loop-pid-init g c = λ graph k version records watched. found_nothing graph k (λ p. own version p records) c.new-findings.result c.new-findings.ensures.text c.new-findings.ensures.verdicts

pub tell-requires : goal.tell-requires
tell-requires g c =
    let (graph, k, version, records, watched, recorded) = c.requires in
    (graph, k, version, records, watched, recorded, has_record_at records c.deref-pid-items.result.now c.loop-pid.pid-index (get_or c.deref-pid-items.result.now c.loop-pid.pid-index 0) (c.deref-pid-items.ensures.value ∙ c.in_ok-pids.ensures graph k version records watched) c.loop-pid-test.true (same_at c.deref-pid-items.result.now c.loop-pid.pid-index 0 c.loop-pid-test.true))

pub loop-pid-preserved : goal.loop-pid-preserved
loop-pid-preserved g c = λ graph k version records watched.
    found_next graph k (λ p. own version p records) g.W.Watches.monitors c.deref-pid-items.result.now c.loop-pid.pid-index (get_or c.deref-pid-items.result.now c.loop-pid.pid-index 0) c.tell.new.findings c.loop-pid-test.true (same_at c.deref-pid-items.result.now c.loop-pid.pid-index 0 c.loop-pid-test.true)
    (c.in_ok-tell.ensures graph k version records (asked_about g.W.Watches.monitors (take c.loop-pid.pid-index c.deref-pid-items.result.now)) watched (c.loop-pid.invariant graph k version records watched))

pub returns : goal.returns
returns g c = λ graph k version records watched.
    let all = take_all c.loop-pid.pid-index c.deref-pid-items.result.now (omega arith) ∙ c.deref-pid-items.ensures.value ∙ c.in_ok-pids.ensures graph k version records watched in
    subst (λ (t : List ℕ). AreFound graph k (λ p. own version p records) (asked_about g.W.Watches.monitors t) c.loop-pid.findings) all (c.loop-pid.invariant graph k version records watched)
