use Rattle.c_lexer.specs.Words.{keywords}
use Rattle.c_lexer.proofs.words.keyword_number.Goals as goal

pub returns : goal.returns
unfolding keywords
returns c = c.number_among.ensures
