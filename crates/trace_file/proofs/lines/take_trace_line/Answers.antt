use Rattle.std.proofs.Common.{arith}
use Rattle.trace_file.proofs.Parts.{case_err}
use Rattle.trace_file.proofs.WholeLines.{end_case, event_case, no_trace_line_left}
use Rattle.trace_file.proofs.lines.take_trace_line.Goals as goal

pub returns-in-empty : goal.returns-in-empty
returns-in-empty c = no_trace_line_left c.args.cursor.now.rest.now c.in-empty.len_below

pub returns-in_err-take_end-in-101 : goal.returns-in_err-take_end-in-101
returns-in_err-take_end-in-101 c =
    case_err _ _ (end_case c.args.cursor.now.rest.now (omega arith) (omega arith)) c.from_residual.result c.from_residual.ensures.1 c.in_err-take_end-in-101.ensures

pub returns-in_err-take_event-in_default : goal.returns-in_err-take_event-in_default
returns-in_err-take_event-in_default c =
    case_err _ _ (event_case c.args.cursor.now.rest.now (omega arith) (omega arith)) c.from_residual-in_err-take_event-in_default.result c.from_residual-in_err-take_event-in_default.ensures.1 c.in_err-take_event-in_default.ensures
