use Rattle.std.proofs.Common.{inl}
use Rattle.c_parser_phrases.proofs.Rows.{high_declarator_as}
use Rattle.c_parser_phrases.proofs.nodes.name_node.Goals as goal

pub returns-clause-height : goal.returns-clause-height
returns-clause-height c = high_declarator_as c.measured_declarator.result c.none.ensures c.measured_declarator.ensures.height

pub returns-clause-deep : goal.returns-clause-deep
returns-clause-deep c = c.measured_declarator.ensures.deep (inl c.none.ensures)
