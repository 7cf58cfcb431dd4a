use Rattle.c_parser_phrases.proofs.Known.{not_there}
use Rattle.c_parser_phrases.proofs.Starts.{no_prefix_there}
use Rattle.c_parser_phrases.proofs.cursor.Cursor.prefix.Goals as goal

pub returns-clause-stands : goal.returns-clause-stands
returns-clause-stands c = no_prefix_there _ (not_there c.is_at_keyword.result c.if-is_at_keyword.false c.is_at_keyword.ensures.stands) c.in_default.ensures.stands c.in_default-unary.ensures.stands
