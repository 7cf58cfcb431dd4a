use Rattle.certify_making.proofs.GrowingLemmas.{remembered}
use Rattle.certify_making.proofs.facts.remember.Goals as goal

pub returns : goal.returns
returns c = remembered c.args.known.now.keys c.insert.new.self.keys c.args.fact c.in_ok-fresh.fresh c.in_ok-fresh.ensures.added c.in_ok-fresh.ensures.keys
