use Rattle.std.proofs.Common.{arith}
use Rattle.line_text.proofs.Splits.{ok_case}
use Rattle.trace_file.proofs.Parts.{read_case, case_err}
use Rattle.trace_file.proofs.EventLemmas.{call_case, pre_case, post_case, no_event_left}
use Rattle.trace_file.proofs.lines.take_event.Goals as goal

pub returns-in-empty : goal.returns-in-empty
returns-in-empty c = no_event_left c.args.cursor.now.rest.now c.in-empty.len_below

pub returns-in-83 : goal.returns-in-83
returns-in-83 c =
    read_case _ _ _ (call_case c.args.cursor.now.rest.now (omega arith) (omega arith)) _ c.take_call.ensures

pub returns-in_err-take_site-in-66 : goal.returns-in_err-take_site-in-66
returns-in_err-take_site-in-66 c =
    case_err _ _ (pre_case c.args.cursor.now.rest.now (omega arith) (omega arith)) c.from_residual.result c.from_residual.ensures.1 c.in_err-take_site-in-66.ensures

pub returns-in_err-take_site-in-69 : goal.returns-in_err-take_site-in-69
returns-in_err-take_site-in-69 c =
    case_err _ _ (post_case c.args.cursor.now.rest.now (omega arith) (omega arith)) c.from_residual-in_err-take_site-in-69.result c.from_residual-in_err-take_site-in-69.ensures.1 c.in_err-take_site-in-69.ensures

pub returns-in_ok-take_site-in-66 : goal.returns-in_ok-take_site-in-66
returns-in_ok-take_site-in-66 c =
    ok_case _ _ (pre_case c.args.cursor.now.rest.now (omega arith) (omega arith)) _ c.in_ok-take_site-in-66.ensures

pub returns-in_ok-take_site-in-69 : goal.returns-in_ok-take_site-in-69
returns-in_ok-take_site-in-69 c =
    ok_case _ _ (post_case c.args.cursor.now.rest.now (omega arith) (omega arith)) _ c.in_ok-take_site-in-69.ensures
