use Rattle.certify_facts.proofs.Lines.{confirmed}
use Rattle.certify_facts.proofs.laws.confirmed_verdicts_hold.Goals as goal

pub returns : goal.returns
returns c = confirmed
