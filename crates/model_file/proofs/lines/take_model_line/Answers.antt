use Rattle.line_text.proofs.Splits.{err_case, ok_case}
use Rattle.model_file.proofs.Narrowing.{reads_err}
use Rattle.model_file.proofs.KindLemmas.{start_case, open_is_cut}
use Rattle.model_file.proofs.lines.take_model_line.Goals as goal

pub returns-in_err-take_word_number-in-Start : goal.returns-in_err-take_word_number-in-Start
returns-in_err-take_word_number-in-Start c =
    let rest = c.take_word_number.new.cursor.rest.now in
    reads_err _ _ _ _ _ c.from_residual.result c.from_residual.ensures.1 (err_case c.args.cursor.now.rest.now rest rest (start_case c.args.version c.args.section.now c.args.cursor.now.rest.now c.in-Start.ensures) _ c.in_err-take_word_number-in-Start.ensures)

pub returns-in_ok-take_word_number-in-Start : goal.returns-in_ok-take_word_number-in-Start
returns-in_ok-take_word_number-in-Start c = ok_case c.args.cursor.now.rest.now c.take_word_number.new.cursor.rest.now (start_case c.args.version c.args.section.now c.args.cursor.now.rest.now c.in-Start.ensures) _ c.in_ok-take_word_number-in-Start.ensures

pub returns-in-Open : goal.returns-in-Open
returns-in-Open c = open_is_cut c.args.version c.args.section.now c.args.cursor.now.rest.now c.in-Open.ensures
