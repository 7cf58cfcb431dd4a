use Rattle.std.proofs.Common.{sym}
use Rattle.c_syntax.proofs.TokenTexts.{no_punctuator, space_after_punctuator}
use Rattle.c_syntax.proofs.Writing.{word_last}
use Rattle.c_syntax_printing.proofs.printing.tokens.push_punctuator.Goals as goal

pub returns : goal.returns
returns c =
    word_last _ _ _ _ _ _
    (sym (no_punctuator c.args.number c.if-number-lt45.false))
    (space_after_punctuator c.args.number c.if-number-lt45.false)
    c.push_word-2.ensures
