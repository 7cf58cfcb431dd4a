use Rattle.std.proofs.Common.{refl}
use Rattle.std.proofs.Math.Logic.{⊎_map}
use Rattle.c_syntax_printing.specs.Nodes.{in_comma}
use Rattle.c_parser_phrases.proofs.Rows.{comma_is, comma_height, made_as, inside_as}
use Rattle.c_parser_phrases.proofs.nodes.comma_node.Goals as goal

pub returns-clause-makes : goal.returns-clause-makes
returns-clause-makes c = made_as c.measured.result (comma_is c.args.at c.args.list.trees) c.measured.ensures.makes

pub measured-requires-clause-exact : goal.measured-requires-clause-exact
measured-requires-clause-exact c = comma_height refl c.args.list.exact (comma_is c.args.at c.args.list.trees)

pub returns-clause-deep : goal.returns-clause-deep
returns-clause-deep c = λ d. c.measured.ensures.deep (inside_as (comma_is c.args.at c.args.list.trees) (⊎_map (λ z. z) in_comma d))
