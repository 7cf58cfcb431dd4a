use Rattle.std.proofs.Common.{inr}
use Rattle.c_syntax_printing.specs.Nodes.{in_left, in_right}
use Rattle.c_parser_phrases.proofs.Deepest.{beside_expr}
use Rattle.c_parser_phrases.proofs.Rows.{made_as, high_as, inside_as}
use Rattle.c_parser_phrases.proofs.nodes.binary_node.Goals as goal

pub returns-clause-makes : goal.returns-clause-makes
returns-clause-makes c = made_as c.measured.result (c.binary_kind.ensures c.args.at) c.measured.ensures.makes

pub returns-clause-height : goal.returns-clause-height
returns-clause-height c = high_as c.measured.result c.beside.ensures.height c.measured.ensures.height

pub returns-clause-deep : goal.returns-clause-deep
returns-clause-deep c = λ d e. c.measured.ensures.deep (inside_as (c.binary_kind.ensures c.args.at) (beside_expr c.beside.ensures.deeper (inr (in_left d)) (inr (in_right e))))
