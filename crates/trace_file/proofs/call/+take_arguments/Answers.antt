use Rattle.trace_file.proofs.Parts.{reads_err}
use Rattle.trace_file.proofs.ArgumentLemmas.{argument_missed, argument_taken}
use Rattle.trace_file.proofs.call.+take_arguments.Goals as goal

pub returns-in_err-take_argument-in-len1-up : goal.returns-in_err-take_argument-in-len1-up
returns-in_err-take_argument-in-len1-up t c =
    reads_err _ _ _ _ _ c.from_residual.result c.from_residual.ensures.1 (argument_missed c.args.kinds.now c.args.taken _ c.take_argument.new.cursor.rest.now _ c.in-len1-up.len_at_least c.in_err-take_argument-in-len1-up.ensures)

pub returns-in_ok-take_argument-in-len1-up : goal.returns-in_ok-take_argument-in-len1-up
returns-in_ok-take_argument-in-len1-up t c =
    argument_taken c.args.kinds.now c.args.taken c.push.new.self _ _ _ _ _ c.in-len1-up.len_at_least c.in_ok-take_argument-in-len1-up.ensures c.push.ensures c.take_arguments.ensures
