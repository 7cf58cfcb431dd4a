use Rattle.std.proofs.lemmas.List.{take_rest}
use Rattle.c_lexer.proofs.white.comment_length.Goals as goal
use Rattle.c_lexer.proofs.WhiteReads.{line_of_run}
use Rattle.c_lexer.proofs.WhiteAnswers.{line_comment_reads, block_comment_reads, open_reads}

pub returns-then-text-eq47 : goal.returns-then-text-eq47
returns-then-text-eq47 c front = line_comment_reads front c.args.text.now c.run_length.result c.if-text-lt2.false c.if-text-ne47.false c.if-text-eq47.true (line_of_run _ _ (rw take_rest at c.run_length.ensures))

pub returns-in-Some : goal.returns-in-Some
returns-in-Some c front = block_comment_reads front c.args.text.now c.in-Some.length c.if-text-lt2.false c.if-text-ne47.false c.if-text-ne42.false (rw take_rest at c.in-Some.ensures)

pub returns-in-None : goal.returns-in-None
returns-in-None c front = open_reads front c.args.text.now c.if-text-lt2.false c.if-text-ne47.false c.if-text-ne42.false (simp take_rest at c.in-None.ensures)
