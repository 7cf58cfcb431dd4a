use Rattle.c_syntax.proofs.Writing.{and_then, and_last}
use Rattle.c_syntax_printing.proofs.printing.statements.write_head.Goals as goal

pub returns : goal.returns
returns c =
    and_last _ _ _
    (and_then (and_then c.in_ok-push_keyword.ensures c.in_ok-push_punctuator.ensures) c.in_ok-write_expr.ensures)
    c.push_punctuator-2.ensures
