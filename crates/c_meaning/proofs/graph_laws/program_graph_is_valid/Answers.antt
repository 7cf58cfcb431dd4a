use Rattle.c_meaning.specs.ShapeOf.{shapes_of, names_of_functions}
use Rattle.c_meaning.proofs.Valid.{valid}
use Rattle.c_meaning.proofs.ProgramsClosed.{closed, named}
use Rattle.c_meaning.proofs.graph_laws.program_graph_is_valid.Goals as goal

pub returns : goal.returns
returns c p n h few = valid (names_of_functions p) (shapes_of p) (closed p n h) (named p n h few)
