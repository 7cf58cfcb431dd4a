use Rattle.c_meaning.proofs.EnoughTurns.{turns_are_enough}
use Rattle.c_meaning.proofs.turns.turns_are_enough.Goals as goal

pub returns : goal.returns
returns c = turns_are_enough
