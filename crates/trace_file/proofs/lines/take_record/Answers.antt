use Rattle.line_text.proofs.Splits.{err_first, err_next, ok_both}
use Rattle.trace_file.proofs.Parts.{reads_err}
use Rattle.trace_file.proofs.EventLemmas.{record_split}
use Rattle.trace_file.proofs.lines.take_record.Goals as goal

pub returns-in_err-pid : goal.returns-in_err-pid
returns-in_err-pid c =
    let rest = c.number.new.self.rest.now in
    reads_err _ _ _ _ _ c.from_residual.result c.from_residual.ensures.1 (err_first record_split _ rest rest _ c.in_err-pid.ensures.reads)

pub returns-in_err-event : goal.returns-in_err-event
returns-in_err-event c =
    reads_err _ _ _ _ _ c.from_residual-in_err-event.result c.from_residual-in_err-event.ensures.1 (err_next record_split _ _ c.take_event.new.cursor.rest.now c.in_ok-pid.pid c.in_ok-pid.ensures.reads _ c.in_err-event.ensures)

pub returns : goal.returns
returns c = ok_both record_split _ _ _ c.in_ok-pid.pid c.in_ok-event.event c.in_ok-pid.ensures.reads c.in_ok-event.ensures
