use Rattle.std.proofs.Common.{inl}
use Rattle.c_parser_phrases.proofs.Rows.{high_as}
use Rattle.c_parser_phrases.proofs.nodes.leaf_node.Goals as goal

pub returns-clause-height : goal.returns-clause-height
returns-clause-height c = high_as c.measured.result c.none.ensures c.measured.ensures.height

pub returns-clause-deep : goal.returns-clause-deep
returns-clause-deep c = c.measured.ensures.deep (inl c.none.ensures)
