use Rattle.std.proofs.Common.{◌≡◌, ◌<◌, length, get_or, sym, subst, refl, inl, inr, arith}
use Rattle.std.specs.Prelude.{Contains}
use Rattle.std.proofs.lemmas.Bool.{false≢true, cases_lt}
use Rattle.line_text.specs.Numbers.{IsFrontOf}
use Rattle.fleet_schedule.specs.declared.line.Line.{Line}
use Rattle.fleet_schedule.specs.ScheduleText.{pids}
use Rattle.fleet_schedule.proofs.PidLemmas.{any_line, pid_at, pid_place, same_at}
use Rattle.fleet_schedule.proofs.pids.has_front.Goals as goal

pub returns-then-is_front : goal.returns-then-is_front
returns-then-is_front c =
    let item = c.process-item.result in
    let within : c.loop-process.process-index < length c.args.processes.now = omega arith in
    let has : Contains (pids c.args.processes.now) item.pid = subst (λ (l : Line). Contains (pids c.args.processes.now) l.pid) (sym c.process-item.is) (pid_at c.args.processes.now c.loop-process.process-index item within) in
    (λ _. (item.pid, has, c.if-is_front.ensures.0 refl), λ _. refl)

pub loop-process-preserved : goal.loop-process-preserved
loop-process-preserved c k d less front =
    elim (cases_lt k c.loop-process.process-index) [
      | inl lt ↦ c.loop-process.invariant k d lt front
      | inr ge ↦
          let same : k ≡ c.loop-process.process-index = omega arith in
          let within : c.loop-process.process-index < length c.args.processes.now = omega arith in
          let here : get_or c.args.processes.now k d ≡ c.process-item.result = same_at c.args.processes.now k c.loop-process.process-index d c.process-item.result same within c.process-item.is in
          (let h = c.if-is_front.ensures.1 (subst (λ (l : Line). IsFrontOf c.args.front l.pid) here front) in cc)
    ]

pub returns : goal.returns
returns c = (
  λ holds. absurd (false≢true holds),
  λ (n, has, front).
      let at = pid_place c.args.processes.now n has in
      let within : at.0 < length c.args.processes.now = at.1 in
      absurd (c.loop-process.invariant at.0 any_line (omega arith) (subst (IsFrontOf c.args.front) (sym (at.2 any_line)) front)),
)
