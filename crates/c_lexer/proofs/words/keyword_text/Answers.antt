use Rattle.c_lexer.specs.Words.{keywords}
use Rattle.c_lexer.proofs.words.keyword_text.Goals as goal

pub returns : goal.returns
unfolding keywords
returns c = c.word_at.ensures
