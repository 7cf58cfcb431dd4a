use Rattle.c_syntax_nodes.proofs.CopyLemmas.{param_made}
use Rattle.c_syntax_nodes.proofs.declarators.param_node.Goals as goal

pub returns : goal.returns
returns c rest = param_made c.args.spec c.args.declarator c.args.at rest
