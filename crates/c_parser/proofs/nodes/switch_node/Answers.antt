use Rattle.std.proofs.Common.{subst}
use Rattle.c_parser.specs.Making.{Makes}
use Rattle.c_syntax.proofs.NodeRows.{switch_is}
use Rattle.c_parser.proofs.nodes.switch_node.Goals as goal

pub returns : goal.returns
returns c = subst (λ s. Makes c.stmt_node.result s) (switch_is c.args.at c.args.on c.args.groups) c.stmt_node.ensures
