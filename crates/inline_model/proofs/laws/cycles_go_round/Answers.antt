use Rattle.inline_model.proofs.RecursionLemmas.{recursion_unbounded}
use Rattle.inline_model.proofs.laws.cycles_go_round.Goals as goal

pub returns : goal.returns
returns c = recursion_unbounded
