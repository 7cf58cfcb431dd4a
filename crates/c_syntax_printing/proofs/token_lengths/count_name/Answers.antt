use Rattle.std.proofs.Common.{refl}
use Rattle.c_lexer.specs.declared.token.TokenKind.TheVariants.{Name}
use Rattle.c_syntax_printing.proofs.Counting.{token_counted}
use Rattle.c_syntax_printing.proofs.token_lengths.count_name.Goals as goal

pub returns : goal.returns
returns c = token_counted _ _ _ (Name c.args.name.now) refl c.add.ensures
