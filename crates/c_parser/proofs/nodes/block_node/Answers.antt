use Rattle.std.proofs.Common.{subst}
use Rattle.c_parser.specs.Making.{Makes}
use Rattle.c_syntax.proofs.NodeRows.{block_is}
use Rattle.c_parser.proofs.nodes.block_node.Goals as goal

pub returns : goal.returns
returns c = subst (λ s. Makes c.stmt_node.result s) (block_is c.args.at c.args.items) c.stmt_node.ensures
