use Rattle.tool_words.proofs.LineLemmas.{none_of_these}
use Rattle.tool_words.proofs.command.bounded_command_of.Goals as goal

pub returns-in-None-clause-none : goal.returns-in-None-clause-none
returns-in-None-clause-none c = none_of_these _ c.later_command_of.result c.in-None.ensures.none c.later_command_of.ensures.watch c.later_command_of.ensures.expected
