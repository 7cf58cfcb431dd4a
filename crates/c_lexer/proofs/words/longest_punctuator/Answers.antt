use Rattle.c_lexer.specs.Words.{punctuators}
use Rattle.c_lexer.proofs.MarkLemmas.{punctuator_found}
use Rattle.c_lexer.proofs.words.longest_punctuator.Goals as goal

pub returns : goal.returns
unfolding punctuators
returns c = punctuator_found c.args.text.now c.longest_front.result c.longest_front.ensures
