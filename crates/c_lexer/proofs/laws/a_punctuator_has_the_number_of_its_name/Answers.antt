use Rattle.std.proofs.Common.{refl}
use Rattle.c_lexer.specs.Words.{punctuators}
use Rattle.c_lexer.specs.Names.{named_punctuators}
use Rattle.c_lexer.proofs.NamedNumbers.{numbers_in}
use Rattle.c_lexer.proofs.laws.a_punctuator_has_the_number_of_its_name.Goals as goal

pub returns-clause-numbers : goal.returns-clause-numbers
unfolding punctuators named_punctuators
returns-clause-numbers c = numbers_in punctuators named_punctuators refl

pub returns-clause-all : goal.returns-clause-all
unfolding punctuators named_punctuators
returns-clause-all c = refl
