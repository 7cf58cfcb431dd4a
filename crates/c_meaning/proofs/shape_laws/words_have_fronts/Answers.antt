use Rattle.c_meaning.specs.ShapeTable as J
use Rattle.c_meaning.proofs.Fronts.{dyck_front, stack_front, callgraph_front}
use Rattle.c_meaning.proofs.shape_laws.words_have_fronts.Goals as goal

pub returns-clause-nothing : goal.returns-clause-nothing
returns-clause-nothing c env m s = J.nothing

pub returns-clause-whole : goal.returns-clause-whole
returns-clause-whole c env m s x t h = J.all h

pub returns-clause-dyck : goal.returns-clause-dyck
returns-clause-dyck c = dyck_front

pub returns-clause-stack : goal.returns-clause-stack
returns-clause-stack c = stack_front

pub returns-clause-callgraph : goal.returns-clause-callgraph
returns-clause-callgraph c = callgraph_front
