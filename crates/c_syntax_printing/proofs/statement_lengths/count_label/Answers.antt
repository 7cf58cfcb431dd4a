use Rattle.c_syntax_printing.proofs.Counting.{and_then}
use Rattle.c_syntax_printing.proofs.statement_lengths.count_label.Goals as goal

pub returns-in-Default : goal.returns-in-Default
returns-in-Default c = rw c.in-Default.is (and_then c.count_keyword-total-in-Default.ensures c.count_punctuator-in-Default.ensures)
