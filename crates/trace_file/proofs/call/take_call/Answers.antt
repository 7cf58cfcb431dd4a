use Rattle.trace_file.proofs.Parts.{reads_err}
use Rattle.trace_file.proofs.CallLemmas.{letter_missed, name_missed, arguments_missed, result_missed, call_taken}
use Rattle.trace_file.proofs.call.take_call.Goals as goal

pub returns-in_err-take : goal.returns-in_err-take
returns-in_err-take c =
    reads_err _ _ _ _ _ c.from_residual.result c.from_residual.ensures.1 (letter_missed _ c.take.new.self.rest.now _ c.in_err-take.ensures.reads)

pub returns-in_err-name : goal.returns-in_err-name
returns-in_err-name c =
    reads_err _ _ _ _ _ c.from_residual-in_err-name.result c.from_residual-in_err-name.ensures.1 (name_missed _ _ c.take_call_name.new.cursor.rest.now _ c.in_ok-take.ensures.reads c.in_err-name.ensures.reads)

pub returns-in_err-args : goal.returns-in_err-args
returns-in_err-args c =
    reads_err _ _ _ _ _ c.from_residual-in_err-args.result c.from_residual-in_err-args.ensures.1 (arguments_missed _ _ _ c.take_arguments.new.cursor.rest.now c.in_ok-name.name c.argument_kinds.result.now c.new.result _ c.in_ok-take.ensures.reads c.in_ok-name.ensures.reads c.argument_kinds.ensures.kinds c.new.ensures c.in_err-args.ensures)

pub returns-in_err-result : goal.returns-in_err-result
returns-in_err-result c =
    reads_err _ _ _ _ _ c.from_residual-in_err-result.result c.from_residual-in_err-result.ensures.1 (result_missed _ _ _ _ c.take_result.new.cursor.rest.now c.in_ok-name.name c.argument_kinds.result.now c.result_kind.result c.new.result c.in_ok-args.args c.in_ok-take.ensures.reads c.in_ok-name.ensures.reads c.argument_kinds.ensures.kinds c.new.ensures c.in_ok-args.ensures c.result_kind.ensures _ c.in_err-result.ensures)

pub returns : goal.returns
returns c =
    call_taken _ _ _ _ _ c.in_ok-name.name c.argument_kinds.result.now c.result_kind.result c.new.result c.in_ok-args.args c.in_ok-take.ensures.reads c.in_ok-name.ensures.reads c.argument_kinds.ensures.kinds c.new.ensures c.in_ok-args.ensures c.result_kind.ensures _ c.in_ok-result.ensures
