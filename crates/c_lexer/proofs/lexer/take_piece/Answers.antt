use Rattle.c_lexer.proofs.lexer.take_piece.Goals as goal
use Rattle.c_lexer.proofs.LexerLemmas.{takes_white, some_rest}

pub take_token-requires-clause-clear : goal.take_token-requires-clause-clear
take_token-requires-clause-clear c = let h = rw c.in-Ok-None.field-0-is at c.in-Ok-None.ensures in h.1 (some_rest c.args.text.now c.args.at c.requires.within)

pub returns-in-Ok-Some-clause-taken : goal.returns-in-Ok-Some-clause-taken
returns-in-Ok-Some-clause-taken c = let h = rw c.in-Ok-Some.field-0-is at c.in-Ok-Some.ensures in takes_white c.args.text.now c.args.at c.in-Ok-Some.length c.args.tokens.now.items c.requires.within h.0 h.1 h.2
