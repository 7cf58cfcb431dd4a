use Rattle.certify_steps.specs.Stepping.{line_of}
use Rattle.certify_steps.proofs.AddingLemmas.{adds_push}
use Rattle.certify_steps.proofs.stepping.add.Goals as goal

pub returns : goal.returns
returns c = adds_push c.args.found.now.items c.push.new.self.items (line_of c.args.fact c.args.reason) c.in_ok-push.ensures.items
