use Rattle.c_lexer.proofs.EscapeReads.{hexadecimal_none, hexadecimal_some}
use Rattle.c_lexer.proofs.escape.read_hexadecimal.Goals as goal

pub returns-then-digits-eq0 : goal.returns-then-digits-eq0
returns-then-digits-eq0 c = λ q. hexadecimal_none q c.args.text.now c.leading_digits-digits.result c.leading_digits-digits.ensures c.if-digits-eq0.true

pub returns : goal.returns
returns c = λ q. hexadecimal_some q c.args.text.now c.leading_digits-digits.result c.leading_digits-digits.ensures c.if-digits-eq0.false
