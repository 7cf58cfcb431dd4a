use Rattle.tool_reading.proofs.InlineLemmas.{stops_recursive, stops_many}
use Rattle.tool_reading.proofs.inline_text.refusal_of.Goals as goal

pub returns-in-Recursive : goal.returns-in-Recursive
returns-in-Recursive c = λ g cause. stops_recursive g c.args.error c.stop_with.result c.in-Recursive.is cause c.stop_with.ensures

pub returns-in-TooManyNodes : goal.returns-in-TooManyNodes
returns-in-TooManyNodes c = λ g cause. stops_many g c.args.error c.stop_with-in-TooManyNodes.result c.in-TooManyNodes.is cause c.stop_with-in-TooManyNodes.ensures
