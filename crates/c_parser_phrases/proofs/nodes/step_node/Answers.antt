use Rattle.std.proofs.Common.{inr}
use Rattle.c_syntax_printing.specs.Nodes.{in_prefix}
use Rattle.c_parser_phrases.proofs.Rows.{made_as, inside_as}
use Rattle.c_parser_phrases.proofs.nodes.step_node.Goals as goal

pub returns-clause-makes : goal.returns-clause-makes
returns-clause-makes c = made_as c.measured.result (c.step_kind.ensures c.args.at) c.measured.ensures.makes

pub returns-clause-deep : goal.returns-clause-deep
returns-clause-deep c = λ d. c.measured.ensures.deep (inside_as (c.step_kind.ensures c.args.at) (inr (in_prefix d)))
