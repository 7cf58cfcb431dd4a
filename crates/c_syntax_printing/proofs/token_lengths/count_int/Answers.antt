use Rattle.std.proofs.Common.{ap, ◌+◌, ◌∙◌, length}
use Rattle.c_lexer.specs.declared.token.TokenKind.TheVariants.{Int}
use Rattle.c_syntax_printing.proofs.Counting.{token_counted}
use Rattle.c_syntax_printing.proofs.TokenLengths.{unsigned_length}
use Rattle.c_syntax_printing.proofs.token_lengths.count_int.Goals as goal

pub returns-then-unsigned : goal.returns-then-unsigned
returns-then-unsigned c =
    rw c.if-unsigned.true
    (token_counted _ _ _ (Int c.args.value _) (ap (λ w. length w + 2) c.format-digits.ensures.text ∙ unsigned_length c.args.value) c.add.ensures)

pub returns : goal.returns
returns c =
    rw c.if-unsigned.false
    (token_counted _ _ _ (Int c.args.value _) (ap (λ w. length w + 1) c.format-digits.ensures.text) c.add-2.ensures)
