use Rattle.c_meaning.proofs.Valid.{valid}
use Rattle.c_meaning.proofs.graph_laws.graph_is_valid.Goals as goal

pub returns : goal.returns
returns c = valid
