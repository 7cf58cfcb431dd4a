use Rattle.null_calls_laws.proofs.All.{operands_follow}
use Rattle.null_calls_laws.proofs.rule_laws.operands_follow.Goals as goal

pub returns : goal.returns
returns c = operands_follow
