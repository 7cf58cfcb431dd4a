use Rattle.c_syntax.proofs.NodeRows.{array_is}
use Rattle.c_syntax_nodes.proofs.declarators.array_node.Goals as goal

pub returns : goal.returns
returns c = array_is c.args.at c.args.inner c.args.size
