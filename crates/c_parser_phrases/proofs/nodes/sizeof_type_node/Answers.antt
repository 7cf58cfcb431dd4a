use Rattle.std.proofs.Math.Logic.{⊎_map}
use Rattle.c_syntax_printing.specs.Nodes.{in_sizeof}
use Rattle.c_parser_phrases.proofs.nodes.sizeof_type_node.Goals as goal

pub returns-clause-deep : goal.returns-clause-deep
returns-clause-deep c = λ d. c.measured.ensures.deep (⊎_map (λ z. z) in_sizeof d)
