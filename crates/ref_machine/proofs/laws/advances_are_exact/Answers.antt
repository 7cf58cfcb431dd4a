use Rattle.ref_machine.proofs.Chains.{advances_are_exact}
use Rattle.ref_machine.proofs.laws.advances_are_exact.Goals as goal

pub returns : goal.returns
returns c = advances_are_exact
