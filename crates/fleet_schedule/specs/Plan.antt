-- What a schedule is seen as.
use Rattle.std.specs.Prelude.{ℕ, List}
use Rattle.fleet_schedule.specs.declared.line.Line.{Line}

-- the processes, and the numbers of those that are advanced, one after another
pub record Plan : Type 0 where
  pub processes : List Line
  pub order : List ℕ
