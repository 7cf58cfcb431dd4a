use Rattle.std.proofs.Common.{◌++◌, ◌+◌, ◌≤◌, ◌-◌, IsTrue, length, take, drop, if◌then◌else◌, subst, arith}
use Rattle.std.specs.Prelude.{◌↔◌}
use Rattle.flow_model.specs.Verdict.{IsAccepted}
use Rattle.expected_events.proofs.RunsLemmas.{run_kept, run_refused}
use Rattle.expected_events.proofs.following.take_runs.Goals as goal

pub returns-then-not-all-clause-stops : goal.returns-then-not-all-clause-stops
returns-then-not-all-clause-stops g c k kept within =
    let which = g.M.Monitor.WHICH in
    let model = c.args.model.now in
    let t = c.args.events.now in
    let n = c.loop-kept.kept in
    let before = c.loop-kept.invariant.kept k kept in
    let exact = c.in_ok-all.ensures.exact k (take n t) before.stands before.accepted in
    run_refused which model k t n 1024 (subst (λ all. IsTrue all ↔ IsAccepted which model k (take n t ++ take (n + 1024 - n) (drop n t))) c.if-not-all.true exact)

pub loop-kept-preserved : goal.loop-kept-preserved
loop-kept-preserved g c =
    let model = c.args.model.now in
    let pool = c.take_run.ensures.pool in
    let notes = c.take_run.ensures.notes c.loop-kept.invariant.notes in
    let within : c.loop-kept.kept + 1024 ≤ length c.args.events.now = omega (arith, c.loop-kept.invariant.within, c.loop-kept-test.true) in
    record {
      pool = c.sweep.ensures.pool model pool;
      notes = c.sweep.ensures.notes model pool notes;
      within = within;
      kept = λ k kept.
          let which = g.M.Monitor.WHICH in
          let t = c.args.events.now in
          let n = c.loop-kept.kept in
          let run = take (n + 1024 - n) (drop n t) in
          let before = c.loop-kept.invariant.kept k kept in
          let taken = c.sweep.ensures.stands model k (if c.in_ok-all.all then take n t ++ run else take n t) pool notes (c.in_ok-all.ensures.stands k (take n t) before.stands) in
          let stands = subst (λ all. g.M.Monitor.stands c.take_run.new.monitor c.sweep.new.pool model k (if all then take n t ++ run else take n t)) c.if-not-all.false taken in
          let accepted = (c.in_ok-all.ensures.exact k (take n t) before.stands before.accepted).0 c.if-not-all.false in
          run_kept which model k t n 1024 (g.M.Monitor.stands c.take_run.new.monitor c.sweep.new.pool model k) within stands accepted;
    }
