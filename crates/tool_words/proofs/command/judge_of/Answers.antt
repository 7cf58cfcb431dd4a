use Rattle.tool_words.specs.Command.TraceCommand.{Judge}
use Rattle.tool_words.proofs.LineLemmas.{no_such_command}
use Rattle.tool_words.proofs.command.judge_of.Goals as goal

pub returns-in_err-asked-clause-none : goal.returns-in_err-asked-clause-none
returns-in_err-asked-clause-none c =
    rw c.from_residual.ensures (no_such_command Judge c.args.word.now c.args.model.now c.args.trace.now _ c.in_err-asked.ensures.none)
