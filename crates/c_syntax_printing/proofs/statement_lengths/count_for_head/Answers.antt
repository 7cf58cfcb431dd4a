use Rattle.c_syntax_printing.proofs.Counting.{and_then}
use Rattle.c_syntax_printing.proofs.statement_lengths.count_for_head.Goals as goal

pub returns : goal.returns
returns c =
    and_then
    (and_then
    (and_then
    (and_then
    (and_then (and_then c.count_keyword-total.ensures c.count_punctuator-total.ensures) c.count_first-total.ensures)
    c.count_maybe-total.ensures)
    c.count_punctuator-total-2.ensures)
    c.count_maybe-total-2.ensures)
    c.count_punctuator.ensures
