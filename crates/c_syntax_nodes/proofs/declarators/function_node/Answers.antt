use Rattle.c_syntax.proofs.NodeRows.{function_is}
use Rattle.c_syntax_nodes.proofs.declarators.function_node.Goals as goal

pub returns : goal.returns
returns c = function_is c.args.at c.args.inner c.args.params
