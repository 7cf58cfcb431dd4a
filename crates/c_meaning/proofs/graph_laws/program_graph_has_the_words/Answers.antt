use Rattle.c_meaning.specs.ShapeOf.{shapes_of, names_of_functions}
use Rattle.c_meaning.proofs.Runs.{dyck, stack, callgraph}
use Rattle.c_meaning.proofs.ProgramsClosed.{closed, many_names}
use Rattle.c_meaning.proofs.graph_laws.program_graph_has_the_words.Goals as goal

pub returns-clause-dyck : goal.returns-clause-dyck
returns-clause-dyck c p n h = dyck (names_of_functions p) (shapes_of p) (closed p n h) (many_names p)

pub returns-clause-stack : goal.returns-clause-stack
returns-clause-stack c p n h = stack (names_of_functions p) (shapes_of p) (closed p n h) (many_names p)

pub returns-clause-callgraph : goal.returns-clause-callgraph
returns-clause-callgraph c p n h = callgraph (names_of_functions p) (shapes_of p) (closed p n h) (many_names p)
