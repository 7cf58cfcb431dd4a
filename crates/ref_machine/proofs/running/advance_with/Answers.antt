use Rattle.std.proofs.Common.{◌≡◌, ◌+◌, [], drop, Some, None, sym, ◌∙◌, subst}
use Rattle.std.proofs.lemmas.List.{drop_all}
use Rattle.ref_machine.specs.Futures.{future, is_waiting}
use Rattle.ref_machine.specs.WholeRuns.{Follows}
use Rattle.ref_machine.proofs.Noting.{follows_going, follows_given, follows_none, record_left, waits_when}
use Rattle.ref_machine.proofs.running.advance_with.Goals as goal

pub returns-then-not-is_waiting-clause-follows : goal.returns-then-not-is_waiting-clause-follows
returns-then-not-is_waiting-clause-follows c =
    let m = c.args.machine.now in
    follows_going (is_waiting m) (future m) (future c.advance.new.self) c.in_ok-pause.pause (is_waiting c.advance.new.self) (sym c.is_waiting.ensures ∙ c.if-not-is_waiting.true) c.in_ok-pause.ensures.advances (drop c.args.taken.now c.args.results.now)

pub returns-then-taken-results-clause-follows : goal.returns-then-taken-results-clause-follows
returns-then-taken-results-clause-follows c =
    let m = c.args.machine.now in
    let g = c.index-results-taken.result in
    subst (λ rs. Follows (future m rs) c.in_ok-pause-2.pause (future c.advance-then-taken-results.new.self (drop (c.args.taken.now + 1) c.args.results.now))) (sym (record_left c.args.results.now c.args.taken.now g c.if-taken-results.true c.index-results-taken.is))
    (follows_given (is_waiting m) (future m) (future c.advance-then-taken-results.new.self) g c.in_ok-pause-2.pause (is_waiting c.advance-then-taken-results.new.self) (sym c.is_waiting.ensures ∙ c.if-not-is_waiting.false) c.in_ok-pause-2.ensures.advances (drop (c.args.taken.now + 1) c.args.results.now))

pub returns-clause-follows : goal.returns-clause-follows
returns-clause-follows c =
    let m = c.args.machine.now in
    let none : drop c.args.taken.now c.args.results.now ≡ [] = drop_all c.args.taken.now c.args.results.now c.if-taken-results.false in
    follows_none (is_waiting m) (future m) (future c.advance-2.new.self) c.in_ok-pause-3.pause (is_waiting c.advance-2.new.self) (sym c.is_waiting.ensures ∙ c.if-not-is_waiting.false) c.in_ok-pause-3.ensures.advances (drop c.args.taken.now c.args.results.now) none

pub returns-then-not-is_waiting-clause-waits : goal.returns-then-not-is_waiting-clause-waits
returns-then-not-is_waiting-clause-waits c =
    let m = c.args.machine.now in
    waits_when (is_waiting m) (future m) (future c.advance.new.self) None c.in_ok-pause.pause (is_waiting c.advance.new.self) c.in_ok-pause.ensures.advances

pub returns-then-taken-results-clause-waits : goal.returns-then-taken-results-clause-waits
returns-then-taken-results-clause-waits c =
    let m = c.args.machine.now in
    waits_when (is_waiting m) (future m) (future c.advance-then-taken-results.new.self) (Some c.index-results-taken.result) c.in_ok-pause-2.pause (is_waiting c.advance-then-taken-results.new.self) c.in_ok-pause-2.ensures.advances

pub returns-clause-waits : goal.returns-clause-waits
returns-clause-waits c =
    let m = c.args.machine.now in
    waits_when (is_waiting m) (future m) (future c.advance-2.new.self) None c.in_ok-pause-3.pause (is_waiting c.advance-2.new.self) c.in_ok-pause-3.ensures.advances
