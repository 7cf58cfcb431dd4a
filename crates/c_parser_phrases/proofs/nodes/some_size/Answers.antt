use Rattle.std.proofs.Common.{inr}
use Rattle.c_syntax_printing.specs.Nodes.{in_there}
use Rattle.c_parser_phrases.proofs.nodes.some_size.Goals as goal

pub returns-clause-deep : goal.returns-clause-deep
returns-clause-deep c = λ d. inr (in_there d)
