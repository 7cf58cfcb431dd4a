use Rattle.c_parser_phrases.proofs.Known.{stood, mark_left, not_there}
use Rattle.c_parser_phrases.proofs.cursor.Cursor.suffix.Goals as goal

pub returns-then-is_at-clause-stands : goal.returns-then-is_at-clause-stands
returns-then-is_at-clause-stands c = stood _ _ (c.is_at.ensures.stands.0 c.if-is_at.true)

pub returns-then-is_at-2-clause-stands : goal.returns-then-is_at-2-clause-stands
returns-then-is_at-2-clause-stands c = stood _ _ (c.is_at-2.ensures.stands.0 c.if-is_at-2.true)

pub returns-then-is_at-3-clause-stands : goal.returns-then-is_at-3-clause-stands
returns-then-is_at-3-clause-stands c = stood _ _ (c.is_at-3.ensures.stands.0 c.if-is_at-3.true)

pub returns-then-is_at-4-clause-stands : goal.returns-then-is_at-4-clause-stands
returns-then-is_at-4-clause-stands c = stood _ _ (c.is_at-4.ensures.stands.0 c.if-is_at-4.true)

pub returns-then-is_at-5-clause-stands : goal.returns-then-is_at-5-clause-stands
returns-then-is_at-5-clause-stands c = stood _ _ (c.is_at-5.ensures.stands.0 c.if-is_at-5.true)

pub returns-then-is_at-6-clause-stands : goal.returns-then-is_at-6-clause-stands
returns-then-is_at-6-clause-stands c = stood _ _ (c.is_at-6.ensures.stands.0 c.if-is_at-6.true)

pub returns-clause-stands : goal.returns-clause-stands
returns-clause-stands c =
    mark_left _
    (not_there c.is_at.result c.if-is_at.false c.is_at.ensures.stands)
    (not_there c.is_at-2.result c.if-is_at-2.false c.is_at-2.ensures.stands)
    (not_there c.is_at-3.result c.if-is_at-3.false c.is_at-3.ensures.stands)
    (not_there c.is_at-4.result c.if-is_at-4.false c.is_at-4.ensures.stands)
    (not_there c.is_at-5.result c.if-is_at-5.false c.is_at-5.ensures.stands)
    (not_there c.is_at-6.result c.if-is_at-6.false c.is_at-6.ensures.stands)
