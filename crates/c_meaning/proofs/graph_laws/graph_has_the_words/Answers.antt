use Rattle.c_meaning.proofs.Runs.{dyck, stack, callgraph}
use Rattle.c_meaning.proofs.graph_laws.graph_has_the_words.Goals as goal

pub returns-clause-dyck : goal.returns-clause-dyck
returns-clause-dyck c names env closed many = dyck names env closed many

pub returns-clause-stack : goal.returns-clause-stack
returns-clause-stack c names env closed many = stack names env closed many

pub returns-clause-callgraph : goal.returns-clause-callgraph
returns-clause-callgraph c names env closed many = callgraph names env closed many
