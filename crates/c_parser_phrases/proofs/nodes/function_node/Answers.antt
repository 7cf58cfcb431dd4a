use Rattle.std.proofs.Common.{refl}
use Rattle.std.proofs.Math.Logic.{⊎_map}
use Rattle.c_syntax_printing.specs.Nodes.{in_function, in_params}
use Rattle.c_parser_phrases.proofs.Deepest.{beside_declarator}
use Rattle.c_parser_phrases.proofs.Rows.{function_is, function_height, made_declarator_as, high_declarator_as, inside_declarator_as}
use Rattle.c_parser_phrases.proofs.nodes.function_node.Goals as goal

pub returns-clause-makes : goal.returns-clause-makes
returns-clause-makes c = made_declarator_as c.measured_declarator.result (function_is c.args.at c.args.a.tree c.args.list.params) c.measured_declarator.ensures.makes

pub returns-clause-height : goal.returns-clause-height
returns-clause-height c = high_declarator_as c.measured_declarator.result c.beside.ensures.height c.measured_declarator.ensures.height

pub measured_declarator-requires-clause-exact : goal.measured_declarator-requires-clause-exact
measured_declarator-requires-clause-exact c = function_height refl c.beside.ensures.height c.args.a.exact c.args.list.exact (function_is c.args.at c.args.a.tree c.args.list.params)

pub returns-clause-deep : goal.returns-clause-deep
returns-clause-deep c = λ d e. c.measured_declarator.ensures.deep (inside_declarator_as (function_is c.args.at c.args.a.tree c.args.list.params) (beside_declarator c.beside.ensures.deeper (⊎_map (λ z. z) in_function d) (⊎_map (λ z. z) in_params e)))
