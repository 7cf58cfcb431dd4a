use Rattle.certify_steps.proofs.AddingLemmas.{adds_then}
use Rattle.certify_steps.proofs.stepping.call_one.Goals as goal

pub returns : goal.returns
returns c = adds_then c.args.found.now.items c.enter.new.found.items c.link.new.found.items _ _ c.in_ok-enter.ensures c.in_ok-link.ensures
