use Rattle.c_lexer.proofs.KindsLemmas.{kind_of_spelled, kind_is_spelled}
use Rattle.c_lexer.proofs.laws.a_token_has_a_kind_that_is_spelled.Goals as goal

pub returns-clause-only : goal.returns-clause-only
returns-clause-only c = kind_of_spelled

pub returns-clause-all : goal.returns-clause-all
returns-clause-all c = kind_is_spelled
