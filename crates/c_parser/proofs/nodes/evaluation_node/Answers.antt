use Rattle.std.proofs.Common.{subst}
use Rattle.c_syntax.specs.Tree.{evaluate}
use Rattle.c_syntax.specs.View.{expr_of}
use Rattle.c_parser.specs.Making.{Makes}
use Rattle.c_parser.proofs.nodes.evaluation_node.Goals as goal

pub returns : goal.returns
returns c = subst (λ e. Makes c.stmt_node.result (evaluate c.args.at (expr_of e))) c.in_ok-inside.ensures.ok c.stmt_node.ensures
