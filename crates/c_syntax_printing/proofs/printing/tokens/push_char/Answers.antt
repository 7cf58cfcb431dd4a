use Rattle.std.proofs.Common.{◌≡◌, rules}
use Rattle.c_syntax.specs.Text.{byte_of}
use Rattle.c_syntax.proofs.TokenTexts.{char_written}
use Rattle.c_syntax_printing.proofs.printing.tokens.push_char.Goals as goal

pub returns : goal.returns
returns c =
    let is : c.byte_of-byte.result ≡ byte_of c.args.c = search rules in
    char_written _ _ _ _ _ _ c.args.c is (c.in_ok-push_bytes.ensures) (c.in_ok-push_element.ensures) c.push_word.ensures
