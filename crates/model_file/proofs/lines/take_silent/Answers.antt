use Rattle.line_text.proofs.Splits.{err_case}
use Rattle.model_file.proofs.Narrowing.{reads_err}
use Rattle.model_file.proofs.KindLemmas.{silent_case}
use Rattle.model_file.proofs.lines.take_silent.Goals as goal

pub returns-in_err-take_silent_line-in-Silent : goal.returns-in_err-take_silent_line-in-Silent
returns-in_err-take_silent_line-in-Silent c =
    let rest = c.take_silent_line.new.cursor.rest.now in
    rw c.in-Silent.is (reads_err _ _ _ _ _ c.from_residual.result c.from_residual.ensures.1 (err_case c.args.cursor.now.rest.now rest rest (silent_case c.args.version c.in-Silent.last c.args.cursor.now.rest.now c.requires) _ c.in_err-take_silent_line-in-Silent.ensures))
