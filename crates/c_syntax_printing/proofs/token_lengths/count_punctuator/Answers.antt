use Rattle.c_lexer.specs.declared.token.TokenKind.TheVariants.{Punct}
use Rattle.c_syntax_printing.proofs.Counting.{token_counted}
use Rattle.c_syntax_printing.proofs.TokenLengths.{punctuator_length, no_punctuator_length}
use Rattle.c_syntax_printing.proofs.token_lengths.count_punctuator.Goals as goal

pub returns-then-number-lt45 : goal.returns-then-number-lt45
returns-then-number-lt45 c = token_counted _ _ _ (Punct c.args.number) (punctuator_length _ _ c.punctuator_text.ensures) c.add.ensures

pub returns : goal.returns
returns c = token_counted _ _ _ (Punct c.args.number) (no_punctuator_length _ c.if-number-lt45.false) c.add-2.ensures
