use Rattle.c_syntax.proofs.NodeRows.{block_is}
use Rattle.null_calls.proofs.statement_nodes.block_node.Goals as goal

pub returns : goal.returns
returns c = block_is c.args.at c.args.items
