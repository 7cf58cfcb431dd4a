use Rattle.std.proofs.Common.{inl, inr}
use Rattle.c_parser_phrases.proofs.Known.{not_there}
use Rattle.c_parser_phrases.proofs.Lacking.{part_wrong, part_deep}
use Rattle.c_parser_phrases.proofs.cursor.Cursor.too_deep_or_wrong.Goals as goal

pub returns-then-is_at : goal.returns-then-is_at
returns-then-is_at c = part_deep (inl (c.is_at.ensures.stands.0 c.if-is_at.true))

pub returns-then-is_at-2 : goal.returns-then-is_at-2
returns-then-is_at-2 c = part_deep (inr (c.is_at-2.ensures.stands.0 c.if-is_at-2.true))

pub returns : goal.returns
returns c = part_wrong (not_there c.is_at.result c.if-is_at.false c.is_at.ensures.stands) (not_there c.is_at-2.result c.if-is_at-2.false c.is_at-2.ensures.stands)
