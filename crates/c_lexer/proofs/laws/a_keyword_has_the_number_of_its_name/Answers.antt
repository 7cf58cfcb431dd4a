use Rattle.std.proofs.Common.{refl}
use Rattle.c_lexer.specs.Words.{keywords}
use Rattle.c_lexer.specs.Names.{named_keywords}
use Rattle.c_lexer.proofs.NamedNumbers.{numbers_in}
use Rattle.c_lexer.proofs.laws.a_keyword_has_the_number_of_its_name.Goals as goal

pub returns-clause-numbers : goal.returns-clause-numbers
unfolding keywords named_keywords
returns-clause-numbers c = numbers_in keywords named_keywords refl

pub returns-clause-all : goal.returns-clause-all
unfolding keywords named_keywords
returns-clause-all c = refl
