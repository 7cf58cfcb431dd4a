use Rattle.c_parser_phrases.proofs.cursor.Cursor.take_keyword.Goals as goal

pub returns-then-is_keyword : goal.returns-then-is_keyword
returns-then-is_keyword c = (_, c.is_keyword.ensures.0 c.if-is_keyword.true, c.in-Some.ensures.cases.0)
