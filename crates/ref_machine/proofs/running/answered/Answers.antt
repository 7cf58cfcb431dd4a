use Rattle.std.proofs.Common.{◌≡◌, false, drop, sym, ◌∙◌, true≢false}
use Rattle.ref_machine.specs.Futures.{future, is_waiting}
use Rattle.ref_machine.proofs.Noting.{end_next, event_next, need_next}
use Rattle.ref_machine.proofs.running.answered.Goals as goal

pub unreachable-requires : goal.unreachable-requires
unreachable-requires c =
    let never : is_waiting c.args.machine.now ≡ false = (need_next (is_waiting c.args.machine.now) (is_waiting c.advance_with.new.machine) c.in_ok-pause.pause c.in_ok-pause.ensures.waits c.in-NeedResult.is).0 in
    true≢false (sym c.requires.waiting ∙ never)

pub returns-in-Did-clause-happens : goal.returns-in-Did-clause-happens
returns-in-Did-clause-happens c =
    event_next c.in_ok-pause.pause c.in-Did.event (future c.args.machine.now (drop c.args.taken.now c.args.results.now)) (future c.advance_with.new.machine (drop c.advance_with.new.taken c.args.results.now)) c.in_ok-pause.ensures.follows c.in-Did.is

pub returns-in-Ended-clause-happens : goal.returns-in-Ended-clause-happens
returns-in-Ended-clause-happens c =
    end_next c.in_ok-pause.pause c.in-Ended.outcome (future c.args.machine.now (drop c.args.taken.now c.args.results.now)) (future c.advance_with.new.machine (drop c.advance_with.new.taken c.args.results.now)) c.in_ok-pause.ensures.follows c.in-Ended.is
