use Rattle.tool_words.specs.Command.TraceCommand.{Watch}
use Rattle.tool_words.proofs.LineLemmas.{no_such_command}
use Rattle.tool_words.proofs.command.watch_of.Goals as goal

pub returns-in_err-asked-clause-none : goal.returns-in_err-asked-clause-none
returns-in_err-asked-clause-none c =
    rw c.from_residual.ensures (no_such_command Watch c.args.word.now c.args.model.now c.args.traces.now _ c.in_err-asked.ensures.none)
