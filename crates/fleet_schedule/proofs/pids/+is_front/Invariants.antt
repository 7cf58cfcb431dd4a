use Rattle.fleet_schedule.proofs.pids.+is_front.Given as goal

abbrev pub decreases-is_front : goal.decreases-is_front
decreases-is_front l = l.number
