use Rattle.null_calls_laws.proofs.All.{choices_follow}
use Rattle.null_calls_laws.proofs.rule_laws.choices_follow.Goals as goal

pub returns : goal.returns
returns c = choices_follow
