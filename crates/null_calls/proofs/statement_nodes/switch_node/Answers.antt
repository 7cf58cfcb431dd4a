use Rattle.std.proofs.Common.{ap, ◌∙◌}
use Rattle.c_syntax.specs.Tree.{switch_on}
use Rattle.c_syntax.specs.View.{expr_of}
use Rattle.c_syntax.specs.WritesUnit.{groups_of}
use Rattle.c_syntax.proofs.NodeRows.{switch_is}
use Rattle.null_calls.proofs.statement_nodes.switch_node.Goals as goal

pub returns : goal.returns
returns c = switch_is c.args.at c.in_ok-on.on c.args.groups ∙ ap (λ e. switch_on c.args.at (expr_of e) (groups_of c.args.groups.items)) c.in_ok-on.ensures.ok
