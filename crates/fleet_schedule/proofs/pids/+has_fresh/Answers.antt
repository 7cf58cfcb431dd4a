use Rattle.std.proofs.Common.{◌≡◌, ℕ, ◌+◌, ◌*◌, ◌<◌, subst, sym, refl, inl, inr, arith}
use Rattle.std.specs.Prelude.{Contains}
use Rattle.std.proofs.lemmas.Bool.{false≢true, cases_lt}
use Rattle.line_text.specs.Numbers.{IsFrontOf}
use Rattle.line_text.proofs.NumberLemmas.{front_same}
use Rattle.fleet_schedule.specs.Lines.{IsFresh}
use Rattle.fleet_schedule.specs.ScheduleText.{pids}
use Rattle.fleet_schedule.proofs.PidLemmas.{front_down, front_up}
use Rattle.fleet_schedule.proofs.pids.+has_fresh.Goals as goal

pub returns-then-not-has_pid : goal.returns-then-not-has_pid
returns-then-not-has_pid t c =
    let fresh : IsFresh c.args.processes.now c.args.front = record { small = omega arith; new = λ has. (let h = c.if-not-has_pid.ensures.1 has in cc) } in
    (λ _. (c.args.front, fresh, front_same c.args.front c.args.front refl), λ _. refl)

pub returns-then-has_fresh : goal.returns-then-has_fresh
returns-then-has_fresh t c =
    let found = c.if-has_fresh.ensures.0 refl in
    let digit : c.loop-digit.digit < 10 = omega arith in
    (λ _. (found.0, found.1, front_up c.args.front found.0 c.loop-digit.digit digit found.2), λ _. refl)

pub loop-digit-preserved : goal.loop-digit-preserved
loop-digit-preserved t c d n less fresh front =
    elim (cases_lt d c.loop-digit.digit) [
      | inl lt ↦ c.loop-digit.invariant d n lt fresh front
      | inr ge ↦
          let same : d ≡ c.loop-digit.digit = omega arith in
          let here = subst (λ (x : ℕ). IsFrontOf (10 * c.args.front + x) n) same front in
          (let h = c.if-has_fresh.ensures.1 (n, fresh, here) in cc)
    ]

pub returns : goal.returns
returns t c = (
  λ holds. absurd (false≢true holds),
  λ (n, fresh, front).
      elim (front_down c.args.front n front) [
        | inl same ↦ absurd (fresh.new (subst (Contains (pids c.args.processes.now)) (sym same) (c.if-not-has_pid.ensures.0 refl)))
        | inr longer ↦
            let digit = longer.1 in
            absurd (c.loop-digit.invariant longer.0 n (omega arith) fresh longer.2)
      ],
)
