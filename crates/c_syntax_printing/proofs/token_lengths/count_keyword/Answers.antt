use Rattle.c_lexer.specs.declared.token.TokenKind.TheVariants.{Keyword}
use Rattle.c_syntax_printing.proofs.Counting.{token_counted}
use Rattle.c_syntax_printing.proofs.TokenLengths.{keyword_length}
use Rattle.c_syntax_printing.proofs.token_lengths.count_keyword.Goals as goal

pub returns : goal.returns
returns c = token_counted _ _ _ (Keyword c.args.number) (keyword_length _ _ c.keyword_text.ensures) c.add.ensures
