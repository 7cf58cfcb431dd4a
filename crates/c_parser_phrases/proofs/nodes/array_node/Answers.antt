use Rattle.std.proofs.Math.Logic.{⊎_map}
use Rattle.c_syntax_printing.specs.Nodes.{in_array, in_size}
use Rattle.c_parser_phrases.proofs.Deepest.{beside_declarator}
use Rattle.c_parser_phrases.proofs.Rows.{array_is, made_declarator_as, high_declarator_as, inside_declarator_as}
use Rattle.c_parser_phrases.proofs.nodes.array_node.Goals as goal

pub returns-clause-makes : goal.returns-clause-makes
returns-clause-makes c = made_declarator_as c.measured_declarator.result (array_is c.args.at c.args.a.tree c.args.size.tree) c.measured_declarator.ensures.makes

pub returns-clause-height : goal.returns-clause-height
returns-clause-height c = high_declarator_as c.measured_declarator.result c.beside.ensures.height c.measured_declarator.ensures.height

pub returns-clause-deep : goal.returns-clause-deep
returns-clause-deep c = λ d e. c.measured_declarator.ensures.deep (inside_declarator_as (array_is c.args.at c.args.a.tree c.args.size.tree) (beside_declarator c.beside.ensures.deeper (⊎_map (λ z. z) in_array d) (⊎_map (λ z. z) in_size e)))
