use Rattle.c_lexer.specs.Words.{punctuators}
use Rattle.c_lexer.proofs.words.punctuator_text.Goals as goal

pub returns : goal.returns
unfolding punctuators
returns c = c.word_at.ensures
