use Rattle.std.proofs.Common.{arith}
use Rattle.line_text.proofs.Splits.{ok_case}
use Rattle.trace_file.proofs.Parts.{case_err}
use Rattle.trace_file.proofs.EndLemmas.{open_case, exit_case, undefined_case, turns_case, results_case, bad_result_case, no_ending_left}
use Rattle.trace_file.proofs.ending.take_ending.Goals as goal

pub returns-in-empty : goal.returns-in-empty
returns-in-empty c = no_ending_left c.args.cursor.now.rest.now c.in-empty.len_below

pub returns-in_err-take-in-111 : goal.returns-in_err-take-in-111
returns-in_err-take-in-111 c =
    case_err _ _ (open_case c.args.cursor.now.rest.now (omega arith) (omega arith)) c.from_residual.result c.from_residual.ensures.1 c.in_err-take-in-111.ensures.reads

pub returns-in_err-take_exit-in-101 : goal.returns-in_err-take_exit-in-101
returns-in_err-take_exit-in-101 c =
    case_err _ _ (exit_case c.args.cursor.now.rest.now (omega arith) (omega arith)) c.from_residual-in_err-take_exit-in-101.result c.from_residual-in_err-take_exit-in-101.ensures.1 c.in_err-take_exit-in-101.ensures

pub returns-in_err-take_undefined-in-117 : goal.returns-in_err-take_undefined-in-117
returns-in_err-take_undefined-in-117 c =
    case_err _ _ (undefined_case c.args.cursor.now.rest.now (omega arith) (omega arith)) c.from_residual-in_err-take_undefined-in-117.result c.from_residual-in_err-take_undefined-in-117.ensures.1 c.in_err-take_undefined-in-117.ensures

pub returns-in_ok-take_undefined-in-117 : goal.returns-in_ok-take_undefined-in-117
returns-in_ok-take_undefined-in-117 c =
    ok_case _ _ (undefined_case c.args.cursor.now.rest.now (omega arith) (omega arith)) _ c.in_ok-take_undefined-in-117.ensures

pub returns-in_err-take-in-116 : goal.returns-in_err-take-in-116
returns-in_err-take-in-116 c =
    case_err _ _ (turns_case c.args.cursor.now.rest.now (omega arith) (omega arith)) c.from_residual-in_err-take-in-116.result c.from_residual-in_err-take-in-116.ensures.1 c.in_err-take-in-116.ensures.reads

pub returns-in_err-take-in-114 : goal.returns-in_err-take-in-114
returns-in_err-take-in-114 c =
    case_err _ _ (results_case c.args.cursor.now.rest.now (omega arith) (omega arith)) c.from_residual-in_err-take-in-114.result c.from_residual-in_err-take-in-114.ensures.1 c.in_err-take-in-114.ensures.reads

pub returns-in_err-number-in-98 : goal.returns-in_err-number-in-98
returns-in_err-number-in-98 c =
    case_err _ _ (bad_result_case c.args.cursor.now.rest.now (omega arith) (omega arith)) c.from_residual-in_err-number-in-98.result c.from_residual-in_err-number-in-98.ensures.1 c.in_err-number-in-98.ensures

pub returns-in_ok-number-in-98 : goal.returns-in_ok-number-in-98
returns-in_ok-number-in-98 c =
    ok_case _ _ (bad_result_case c.args.cursor.now.rest.now (omega arith) (omega arith)) _ c.in_ok-number-in-98.ensures
