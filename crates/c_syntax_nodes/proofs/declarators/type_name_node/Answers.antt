use Rattle.c_syntax_nodes.proofs.CopyLemmas.{type_name_made}
use Rattle.c_syntax_nodes.proofs.declarators.type_name_node.Goals as goal

pub returns : goal.returns
returns c = type_name_made c.args.spec c.args.declarator c.args.at
