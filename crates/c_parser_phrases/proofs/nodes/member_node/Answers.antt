use Rattle.std.proofs.Common.{inr}
use Rattle.c_syntax_printing.specs.Nodes.{in_member}
use Rattle.c_parser_phrases.proofs.nodes.member_node.Goals as goal

pub returns-clause-deep : goal.returns-clause-deep
returns-clause-deep c = λ d. c.measured.ensures.deep (inr (in_member d))
