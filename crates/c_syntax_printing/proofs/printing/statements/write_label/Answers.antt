use Rattle.c_syntax.proofs.Writing.{and_last}
use Rattle.c_syntax_printing.proofs.printing.statements.write_label.Goals as goal

pub returns-in_ok-push_keyword-in-Default : goal.returns-in_ok-push_keyword-in-Default
returns-in_ok-push_keyword-in-Default c =
    rw c.in-Default.is (and_last _ _ _ c.in_ok-push_keyword-in-Default.ensures c.push_punctuator-in-Default.ensures)
