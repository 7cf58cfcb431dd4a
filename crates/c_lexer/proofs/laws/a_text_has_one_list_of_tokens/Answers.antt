use Rattle.c_lexer.proofs.laws.a_text_has_one_list_of_tokens.Goals as goal
use Rattle.c_lexer.proofs.OneTokenText.{one_reading}

pub returns : goal.returns
returns c = one_reading
