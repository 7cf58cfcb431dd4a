use Rattle.std.proofs.Common.{◌≡◌, ◌≢◌, ℕ, ◌<◌, ◌^◌, [], length, decimal, refl, subst, ap, arith, rules}
use Rattle.std.proofs.lemmas.Bool.{false≢true}
use Rattle.std.proofs.lemmas.List.{nil_from_length}
use Rattle.fleet_schedule.specs.Lines.{IsFresh}
use Rattle.fleet_schedule.proofs.PidLemmas.{begins_all, begins_zero, begins_front, begins_none, fresh_tells, some_fresh}
use Rattle.fleet_schedule.proofs.pids.begins_fresh.Goals as goal

pub returns-then-is_empty : goal.returns-then-is_empty
returns-then-is_empty c =
    let none : c.args.text.now ≡ [] = nil_from_length c.args.text.now (grind arith) in
    let found = some_fresh c.args.processes.now c.requires in
    (λ _. rw none (begins_all (IsFresh c.args.processes.now) found.0 found.1), λ _. refl)

pub returns-in-Some-eq0 : goal.returns-in-Some-eq0
returns-in-Some-eq0 c =
    let both = begins_zero (IsFresh c.args.processes.now) c.args.text.now (λ n fresh. fresh.small) (subst (λ (n : ℕ). c.args.text.now ≡ decimal n) c.in-Some-eq0.field-0-test c.in-Some-eq0.ensures.some) in
    let tells = fresh_tells c.args.processes.now c.has_pid.result 0 (omega arith) c.has_pid.ensures in
    (λ holds. both.0 (tells.0 holds), λ begins. tells.1 (both.1 begins))

pub returns-in-Some : goal.returns-in-Some
returns-in-Some c =
    let fits : c.in-Some.front < 2 ^ 32 = search rules in
    begins_front (IsFresh c.args.processes.now) c.args.text.now c.in-Some.front c.from.result c.has_fresh.result (λ n fresh. fresh.small) (search rules) c.in-Some.ensures.some (omega (arith, c.in-Some.front-test.1)) fits c.has_fresh.ensures

pub returns-in-None : goal.returns-in-None
returns-in-None c =
    let some : c.args.text.now ≢ [] = λ none. (let len : length c.args.text.now ≡ 0 = ap length none in grind arith) in
    (λ holds. absurd (false≢true holds), λ begins. absurd (begins_none (IsFresh c.args.processes.now) c.args.text.now (λ n fresh. fresh.small) some c.in-None.ensures.none begins))
