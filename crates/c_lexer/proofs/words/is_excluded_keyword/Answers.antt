use Rattle.c_lexer.specs.Words.{excluded_keywords}
use Rattle.c_lexer.proofs.WordTables.{found_tells}
use Rattle.c_lexer.proofs.words.is_excluded_keyword.Goals as goal

pub returns : goal.returns
unfolding excluded_keywords
returns c = found_tells excluded_keywords c.args.text.now c.number_among.result c.is_some.result c.number_among.ensures c.is_some.ensures
