use Rattle.c_lexer.specs.declared.token.TokenKind.TheVariants.{Str}
use Rattle.c_syntax_printing.proofs.Counting.{token_counted, rises_then}
use Rattle.c_syntax_printing.proofs.TokenLengths.{str_length}
use Rattle.c_syntax_printing.proofs.token_lengths.count_str.Goals as goal

pub returns : goal.returns
returns c = token_counted _ _ _ (Str c.args.bytes.now) (str_length c.args.bytes.now) (rises_then _ _ _ _ _ c.count_elements-total.ensures c.add.ensures)
