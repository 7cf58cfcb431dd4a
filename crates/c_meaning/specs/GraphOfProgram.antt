-- The graph of a program: that of its shapes.
use Rattle.c_meaning.specs.Tree.{Program}
use Rattle.c_meaning.specs.ShapeOf.{shapes_of, names_of_functions}
use Rattle.flow_model.specs.Graph.{Graph}
use Rattle.c_meaning.specs.GraphOf.{graph_of}

-- its functions are the defined ones in order, and then the system calls whose names are taken
abbrev pub graph_of_program : Program → Graph
graph_of_program p = graph_of (names_of_functions p) (shapes_of p)
