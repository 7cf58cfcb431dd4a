use Rattle.std.proofs.Common.{refl, inr}
use Rattle.std.proofs.Math.Logic.{⊎_map}
use Rattle.c_syntax_printing.specs.Nodes.{in_called, in_arguments}
use Rattle.c_parser_phrases.proofs.Deepest.{beside_expr}
use Rattle.c_parser_phrases.proofs.Rows.{call_is, call_height, made_as, high_as, inside_as}
use Rattle.c_parser_phrases.proofs.nodes.call_node.Goals as goal

pub returns-clause-makes : goal.returns-clause-makes
returns-clause-makes c = made_as c.measured.result (call_is c.args.at c.args.a.tree c.args.list.trees) c.measured.ensures.makes

pub returns-clause-height : goal.returns-clause-height
returns-clause-height c = high_as c.measured.result c.beside.ensures.height c.measured.ensures.height

pub measured-requires-clause-exact : goal.measured-requires-clause-exact
measured-requires-clause-exact c = call_height refl c.beside.ensures.height c.args.a.exact c.args.list.exact (call_is c.args.at c.args.a.tree c.args.list.trees)

pub returns-clause-deep : goal.returns-clause-deep
returns-clause-deep c = λ d e. c.measured.ensures.deep (inside_as (call_is c.args.at c.args.a.tree c.args.list.trees) (beside_expr c.beside.ensures.deeper (inr (in_called d)) (⊎_map (λ z. z) in_arguments e)))
