use Rattle.c_syntax.proofs.NodeRows.{comma_is}
use Rattle.c_syntax_nodes.proofs.nodes.comma_node.Goals as goal

pub returns : goal.returns
returns c = comma_is c.args.at c.args.list
