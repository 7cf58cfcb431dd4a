use Rattle.c_parser_phrases.proofs.cursor.Cursor.take.Goals as goal

pub returns-then-is_punctuator : goal.returns-then-is_punctuator
returns-then-is_punctuator c = (_, c.is_punctuator.ensures.0 c.if-is_punctuator.true, c.in-Some.ensures.cases.0)
