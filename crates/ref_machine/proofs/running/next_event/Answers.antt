use Rattle.std.proofs.Common.{drop}
use Rattle.ref_machine.specs.Futures.{future, is_waiting}
use Rattle.ref_machine.proofs.Noting.{end_next, event_next, happens_after, need_next, same_left}
use Rattle.ref_machine.proofs.running.next_event.Goals as goal

pub answered-requires-clause-waiting : goal.answered-requires-clause-waiting
answered-requires-clause-waiting c =
    (need_next (is_waiting c.args.machine.now) (is_waiting c.advance_with.new.machine) c.in_ok-pause.pause c.in_ok-pause.ensures.waits c.in-NeedResult.is).1

pub returns-in_ok-next-in-NeedResult-clause-happens : goal.returns-in_ok-next-in-NeedResult-clause-happens
returns-in_ok-next-in-NeedResult-clause-happens c =
    let rs = c.args.results.now in
    let old = future c.args.machine.now (drop c.args.taken.now rs) in
    let mid = future c.advance_with.new.machine (drop c.advance_with.new.taken rs) in
    happens_after old mid (future c.answered.new.machine (drop c.answered.new.taken rs)) c.in_ok-next-in-NeedResult.next (same_left c.in_ok-pause.pause old mid c.in_ok-pause.ensures.follows c.in-NeedResult.is) c.in_ok-next-in-NeedResult.ensures.happens

pub returns-in-Did-clause-happens : goal.returns-in-Did-clause-happens
returns-in-Did-clause-happens c =
    event_next c.in_ok-pause.pause c.in-Did.event (future c.args.machine.now (drop c.args.taken.now c.args.results.now)) (future c.advance_with.new.machine (drop c.advance_with.new.taken c.args.results.now)) c.in_ok-pause.ensures.follows c.in-Did.is

pub returns-in-Ended-clause-happens : goal.returns-in-Ended-clause-happens
returns-in-Ended-clause-happens c =
    end_next c.in_ok-pause.pause c.in-Ended.outcome (future c.args.machine.now (drop c.args.taken.now c.args.results.now)) (future c.advance_with.new.machine (drop c.advance_with.new.taken c.args.results.now)) c.in_ok-pause.ensures.follows c.in-Ended.is
