use Rattle.line_text.proofs.Splits.{err_case}
use Rattle.model_file.proofs.Narrowing.{reads_err}
use Rattle.model_file.proofs.KindLemmas.{sys_case, first_sys_case}
use Rattle.model_file.proofs.lines.take_sys.Goals as goal

pub returns-in_err-take_sys_line-in-Silent : goal.returns-in_err-take_sys_line-in-Silent
returns-in_err-take_sys_line-in-Silent c =
    let rest = c.take_sys_line.new.cursor.rest.now in
    rw c.in-Silent.is (reads_err _ _ _ _ _ c.from_residual.result c.from_residual.ensures.1 (err_case c.args.cursor.now.rest.now rest rest (first_sys_case c.args.version _ c.args.cursor.now.rest.now c.requires) _ c.in_err-take_sys_line-in-Silent.ensures))

pub returns-in_err-take_sys_line-in-Sys : goal.returns-in_err-take_sys_line-in-Sys
returns-in_err-take_sys_line-in-Sys c =
    let rest = c.take_sys_line-in-Sys.new.cursor.rest.now in
    rw c.in-Sys.is (reads_err _ _ _ _ _ c.from_residual-in_err-take_sys_line-in-Sys.result c.from_residual-in_err-take_sys_line-in-Sys.ensures.1 (err_case c.args.cursor.now.rest.now rest rest (sys_case c.args.version c.in-Sys.last c.args.cursor.now.rest.now c.requires) _ c.in_err-take_sys_line-in-Sys.ensures))
