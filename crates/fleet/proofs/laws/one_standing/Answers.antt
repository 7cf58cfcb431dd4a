use Rattle.fleet.proofs.AloneLemmas.{one_alone}
use Rattle.fleet.proofs.laws.one_standing.Goals as goal

pub returns : goal.returns
returns c = record { one = one_alone }
