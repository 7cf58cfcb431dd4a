use Rattle.std.proofs.Common.{ℕ, take, subst}
use Rattle.c_lexer.specs.Elements.{ReadsDigits}
use Rattle.c_lexer.proofs.EscapeReads.{octal_none, octal_some}
use Rattle.c_lexer.proofs.escape.read_octal.Goals as goal

pub returns-then-digits-eq0 : goal.returns-then-digits-eq0
returns-then-digits-eq0 c = λ q.
    let reads = subst (λ (n : ℕ). ReadsDigits 8 (take n c.args.text.now) c.leading_digits-digits.result) c.min.ensures c.leading_digits-digits.ensures in
    octal_none q c.args.text.now c.leading_digits-digits.result reads c.requires.no_x c.requires.no_simple c.if-digits-eq0.true

pub returns : goal.returns
returns c = λ q.
    let reads = subst (λ (n : ℕ). ReadsDigits 8 (take n c.args.text.now) c.leading_digits-digits.result) c.min.ensures c.leading_digits-digits.ensures in
    octal_some q c.args.text.now c.leading_digits-digits.result reads c.if-digits-eq0.false
