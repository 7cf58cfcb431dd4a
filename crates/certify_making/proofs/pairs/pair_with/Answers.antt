use Rattle.certify_steps.proofs.AddingLemmas.{adds_then}
use Rattle.certify_making.proofs.pairs.pair_with.Goals as goal

pub returns : goal.returns
returns c = adds_then c.args.found.now.items c.return_along.new.found.items c.return_along-2.new.found.items _ _ c.in_ok-return_along.ensures c.in_ok-return_along-2.ensures
