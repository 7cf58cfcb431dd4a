use Rattle.c_syntax.proofs.Writing.{and_last}
use Rattle.c_syntax_printing.proofs.printing.statements.write_jump.Goals as goal

pub returns : goal.returns
returns c = and_last _ _ _ c.in_ok-push_keyword.ensures c.push_punctuator.ensures
