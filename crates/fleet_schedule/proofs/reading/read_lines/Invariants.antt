use Rattle.std.proofs.Common.{length}
use Rattle.fleet_schedule.proofs.ScheduleLemmas.{IsReading}
use Rattle.fleet_schedule.proofs.reading.read_lines.Given as goal

-- the lines that were read, and what is left, are the text
abbrev pub invariant-lines : goal.invariant-lines
invariant-lines l = IsReading l.text l.processes.items l.order.items l.rest

abbrev pub decreases-lines : goal.decreases-lines
decreases-lines l = length l.rest
