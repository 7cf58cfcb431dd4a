use Rattle.std.proofs.Common.{arith}
use Rattle.line_text.proofs.Splits.{ok_case}
use Rattle.trace_file.proofs.Parts.{case_err}
use Rattle.trace_file.proofs.WholeLines.{last_case, record_case, no_traces_line_left}
use Rattle.trace_file.proofs.lines.take_traces_line.Goals as goal

pub returns-in-empty : goal.returns-in-empty
returns-in-empty c = no_traces_line_left c.args.cursor.now.rest.now c.in-empty.len_below

pub returns-in_err-take-in-101 : goal.returns-in_err-take-in-101
returns-in_err-take-in-101 c =
    case_err _ _ (last_case c.args.cursor.now.rest.now (omega arith) (omega arith)) c.from_residual.result c.from_residual.ensures.1 c.in_err-take-in-101.ensures.reads

pub returns-in_ok-take-in-101 : goal.returns-in_ok-take-in-101
returns-in_ok-take-in-101 c =
    ok_case _ _ (last_case c.args.cursor.now.rest.now (omega arith) (omega arith)) _ c.in_ok-take-in-101.ensures.reads

pub returns-in_err-take_record-in_default : goal.returns-in_err-take_record-in_default
returns-in_err-take_record-in_default c =
    case_err _ _ (record_case c.args.cursor.now.rest.now (omega arith) (omega arith)) c.from_residual-in_err-take_record-in_default.result c.from_residual-in_err-take_record-in_default.ensures.1 c.in_err-take_record-in_default.ensures

pub returns-in_ok-take_record-in_default : goal.returns-in_ok-take_record-in_default
returns-in_ok-take_record-in_default c =
    ok_case _ _ (record_case c.args.cursor.now.rest.now (omega arith) (omega arith)) _ c.in_ok-take_record-in_default.ensures
