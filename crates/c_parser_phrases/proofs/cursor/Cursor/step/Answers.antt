use Rattle.c_parser_phrases.proofs.Known.{stood}
use Rattle.c_parser_phrases.proofs.Known.{not_there}
use Rattle.c_parser_phrases.proofs.cursor.Cursor.step.Goals as goal

pub returns-then-is_at-clause-stands : goal.returns-then-is_at-clause-stands
returns-then-is_at-clause-stands c = stood _ _ (c.is_at.ensures.stands.0 c.if-is_at.true)

pub returns-then-is_at-2-clause-stands : goal.returns-then-is_at-2-clause-stands
returns-then-is_at-2-clause-stands c = stood _ _ (c.is_at-2.ensures.stands.0 c.if-is_at-2.true)

pub returns-clause-stands : goal.returns-clause-stands
returns-clause-stands c = (not_there c.is_at.result c.if-is_at.false c.is_at.ensures.stands, not_there c.is_at-2.result c.if-is_at-2.false c.is_at-2.ensures.stands)
