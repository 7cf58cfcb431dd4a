use Rattle.std.proofs.Common.{◌<◌, length, arith}
use Rattle.std.proofs.lemmas.Bool.{false≢true}
use Rattle.fleet_schedule.proofs.PidLemmas.{any_line, pid_place}
use Rattle.fleet_schedule.proofs.pids.has_pid.Goals as goal

pub returns : goal.returns
returns c = (
  λ holds. absurd (false≢true holds),
  λ has.
      let at = pid_place c.args.processes.now c.args.pid has in
      let within : at.0 < length c.args.processes.now = at.1 in
      absurd (c.loop-process.invariant at.0 any_line (omega arith) (at.2 any_line)),
)
