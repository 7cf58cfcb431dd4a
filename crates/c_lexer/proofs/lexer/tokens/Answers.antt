use Rattle.c_lexer.proofs.lexer.tokens.Goals as goal
use Rattle.c_lexer.proofs.LexerLemmas.{none_from_stopped}

pub returns-clause-none : goal.returns-clause-none
returns-clause-none c = none_from_stopped c.args.text.now c.args.mode c.read_tokens.result c.read_tokens.ensures.stopped
