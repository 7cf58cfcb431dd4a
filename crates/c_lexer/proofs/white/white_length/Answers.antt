use Rattle.std.proofs.Common.{take, refl}
use Rattle.std.proofs.lemmas.List.{take_rest}
use Rattle.c_lexer.proofs.white.white_length.Goals as goal
use Rattle.c_lexer.proofs.WhiteAnswers.{blank_reads}
use Rattle.c_lexer.proofs.WhiteReads.{some_from_test}

pub returns-then-is_blank : goal.returns-then-is_blank
returns-then-is_blank c = blank_reads _ _ (some_from_test _ (rw take_rest at c.if-is_empty.ensures)) (rw take_rest at (c.if-is_blank.ensures.0 refl))

pub returns : goal.returns
returns c = rw take_rest at (c.comment_length.ensures (take c.args.at c.args.text.now))
