use Rattle.c_syntax.proofs.NodeRows.{list_is}
use Rattle.c_syntax_nodes.proofs.parts.list_node.Goals as goal

pub returns : goal.returns
returns c = list_is c.args.at c.args.inits
