use Rattle.c_meaning.proofs.Leaving.{straight, done}
use Rattle.c_meaning.proofs.Joining.{whole_of_table}
use Rattle.c_meaning.proofs.shape_laws.exits_stay_inside.Goals as goal

pub returns-clause-expressions : goal.returns-clause-expressions
returns-clause-expressions c env m s x t e h = straight env m (whole_of_table env m s x t h) e

pub returns-clause-bodies : goal.returns-clause-bodies
returns-clause-bodies c env m s x t e h = done env m (whole_of_table env m s x t h) e
