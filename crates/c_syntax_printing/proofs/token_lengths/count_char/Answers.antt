use Rattle.std.proofs.Common.{ap, ◌∙◌, length, ◌≡◌, rules}
use Rattle.c_lexer.specs.declared.token.TokenKind.TheVariants.{Char}
use Rattle.c_syntax.specs.Text.{byte_of, element_text}
use Rattle.c_syntax_printing.proofs.Counting.{token_counted}
use Rattle.c_syntax_printing.proofs.TokenLengths.{char_length}
use Rattle.c_syntax_printing.proofs.token_lengths.count_char.Goals as goal

pub returns : goal.returns
returns c =
    let is : c.byte_of.result ≡ byte_of c.args.c = search rules in
    token_counted _ _ _ (Char c.args.c) (char_length _ c.args.c (c.element_length.ensures.value ∙ ap (λ b. length (element_text 39 b)) is)) c.add.ensures
