use Rattle.c_lexer.proofs.KindsChoice.{other_first, no_letter, no_digit}
use Rattle.c_lexer.proofs.reading.read_token.Goals as goal

pub read_mark-requires-clause-begins : goal.read_mark-requires-clause-begins
read_mark-requires-clause-begins c =
    other_first c.args.text.now c.requires.some (no_letter _ c.if-is_ascii_alphabetic.ensures.cases c.if-first-eq95.false) (no_digit _ c.if-is_ascii_digit.ensures.cases)
    c.if-first-eq39.false c.if-first-eq34.false
