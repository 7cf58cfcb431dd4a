use Rattle.certify_making.proofs.PairLemmas.{adds_return, adds_no_return}
use Rattle.certify_making.proofs.pairs.return_along.Goals as goal

pub returns-in_ok-push : goal.returns-in_ok-push
returns-in_ok-push c = adds_return c.args.model.now c.args.x c.args.number c.args.z c.args.link c.args.found.now.items c.push.new.self.items c.in-Some.fact c.in-Some.ensures.some c.in-Some.ensures.only c.in_ok-push.ensures.items

pub returns-in_default : goal.returns-in_default
returns-in_default c = adds_no_return c.args.model.now c.args.x c.args.number c.args.z c.args.link c.args.found.now.items c.in_default.ensures.only
