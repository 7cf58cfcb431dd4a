use Rattle.null_calls_laws.proofs.All.{pairs_follow}
use Rattle.null_calls_laws.proofs.rule_laws.pairs_follow.Goals as goal

pub returns : goal.returns
returns c = pairs_follow
