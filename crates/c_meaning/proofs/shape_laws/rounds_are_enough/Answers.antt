use Rattle.c_meaning.proofs.Rounds.{enough}
use Rattle.c_meaning.proofs.SameTypes.{types_tell}
use Rattle.c_meaning.proofs.shape_laws.rounds_are_enough.Goals as goal

pub returns-clause-rounds : goal.returns-clause-rounds
returns-clause-rounds c p n f h = enough p n f h

pub returns-clause-types : goal.returns-clause-types
returns-clause-types c = types_tell
