use Rattle.null_calls.proofs.TreeLemmas.{group_made}
use Rattle.null_calls.proofs.statement_nodes.group_node.Goals as goal

pub returns : goal.returns
returns c rest = group_made c.args.labels c.args.body rest
