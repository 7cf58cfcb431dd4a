use Rattle.c_syntax.proofs.NodeRows.{list_is}
use Rattle.null_calls.proofs.declarations.list_node.Goals as goal

pub returns : goal.returns
returns c = list_is c.args.at c.args.inits
