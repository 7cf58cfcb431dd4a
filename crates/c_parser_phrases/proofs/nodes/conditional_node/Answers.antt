use Rattle.std.proofs.Common.{max, inr, ap, ◌∙◌}
use Rattle.c_syntax_printing.specs.Nodes.{in_test, in_yes, in_no}
use Rattle.c_parser_phrases.proofs.Deepest.{beside_expr}
use Rattle.c_parser_phrases.proofs.Rows.{high_as}
use Rattle.c_parser_phrases.proofs.nodes.conditional_node.Goals as goal

pub returns-clause-height : goal.returns-clause-height
returns-clause-height c = high_as c.measured.result (c.beside-2.ensures.height ∙ ap (λ h. max c.args.a.depth.height h) c.beside.ensures.height) c.measured.ensures.height

pub returns-clause-deep : goal.returns-clause-deep
returns-clause-deep c = λ d e f. c.measured.ensures.deep (beside_expr c.beside-2.ensures.deeper (inr (in_test d)) (beside_expr c.beside.ensures.deeper (inr (in_yes e)) (inr (in_no f))))
