use Rattle.std.proofs.Common.{ap, ◌∙◌}
use Rattle.c_syntax.specs.Tree.{call}
use Rattle.c_syntax.specs.View.{expr_of}
use Rattle.c_syntax.specs.Writes.{exprs_of}
use Rattle.c_syntax.proofs.NodeRows.{call_is}
use Rattle.c_syntax_nodes.proofs.nodes.call_node.Goals as goal

pub returns : goal.returns
returns c = call_is c.args.at c.in_ok-designator.designator c.args.arguments ∙ ap (λ d. call c.args.at (expr_of d) (exprs_of c.args.arguments.items)) c.in_ok-designator.ensures.ok
