use Rattle.std.proofs.Common.{inr}
use Rattle.std.proofs.Math.Logic.{⊎_map}
use Rattle.c_syntax_printing.specs.Nodes.{in_cast_type, in_cast}
use Rattle.c_parser_phrases.proofs.Deepest.{beside_expr}
use Rattle.c_parser_phrases.proofs.Rows.{high_as}
use Rattle.c_parser_phrases.proofs.nodes.cast_node.Goals as goal

pub returns-clause-height : goal.returns-clause-height
returns-clause-height c = high_as c.measured.result c.beside.ensures.height c.measured.ensures.height

pub returns-clause-deep : goal.returns-clause-deep
returns-clause-deep c = λ d e. c.measured.ensures.deep (beside_expr c.beside.ensures.deeper (⊎_map (λ z. z) in_cast_type d) (inr (in_cast e)))
