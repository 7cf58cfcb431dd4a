use Rattle.std.proofs.Common.{◌≡◌, ◌≢◌, ℕ, ◌<◌, ◌^◌, [], length, decimal, refl, subst, ap, arith, rules}
use Rattle.std.specs.Prelude.{Contains}
use Rattle.std.proofs.lemmas.Bool.{false≢true}
use Rattle.std.proofs.lemmas.List.{nil_from_length}
use Rattle.fleet_schedule.specs.ScheduleText.{pids}
use Rattle.fleet_schedule.proofs.PidLemmas.{begins_zero, begins_front, begins_none, known_all, pid_small}
use Rattle.fleet_schedule.proofs.pids.begins_known.Goals as goal

pub returns-then-is_empty : goal.returns-then-is_empty
returns-then-is_empty c =
    let none : c.args.text.now ≡ [] = nil_from_length c.args.text.now (grind arith) in
    known_all c.args.processes.now c.is_empty-then-is_empty.result c.args.text.now c.is_empty-then-is_empty.ensures none

pub returns-in-Some-eq0 : goal.returns-in-Some-eq0
returns-in-Some-eq0 c =
    let both = begins_zero (Contains (pids c.args.processes.now)) c.args.text.now (λ n has. pid_small c.args.processes.now n c.requires has) (subst (λ (n : ℕ). c.args.text.now ≡ decimal n) c.in-Some-eq0.field-0-test c.in-Some-eq0.ensures.some) in
    (λ holds. both.0 (c.has_pid.ensures.0 holds), λ begins. c.has_pid.ensures.1 (both.1 begins))

pub returns-in-Some : goal.returns-in-Some
returns-in-Some c =
    let fits : c.in-Some.front < 2 ^ 32 = search rules in
    begins_front (Contains (pids c.args.processes.now)) c.args.text.now c.in-Some.front c.in-Some.front c.has_front.result (λ n has. pid_small c.args.processes.now n c.requires has) refl c.in-Some.ensures.some (omega (arith, c.in-Some.front-test.1)) fits c.has_front.ensures

pub returns-in-None : goal.returns-in-None
returns-in-None c =
    let some : c.args.text.now ≢ [] = λ none. (let len : length c.args.text.now ≡ 0 = ap length none in grind arith) in
    (λ holds. absurd (false≢true holds), λ begins. absurd (begins_none (Contains (pids c.args.processes.now)) c.args.text.now (λ n has. pid_small c.args.processes.now n c.requires has) some c.in-None.ensures.none begins))
