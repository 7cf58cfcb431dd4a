use Rattle.c_syntax.proofs.NodeRows.{pointer_is}
use Rattle.c_syntax_nodes.proofs.declarators.pointer_node.Goals as goal

pub returns : goal.returns
returns c = pointer_is c.args.at c.args.inner
