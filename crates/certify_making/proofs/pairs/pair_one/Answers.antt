use Rattle.certify_making.proofs.PairLemmas.{adds_named, adds_none_named}
use Rattle.certify_making.proofs.pairs.pair_one.Goals as goal

pub returns-in_ok-pair_with : goal.returns-in_ok-pair_with
returns-in_ok-pair_with c = adds_named c.args.model.now c.args.lines.now c.args.fact c.args.number c.args.other c.args.found.now.items c.pair_with.new.found.items c.in-Some.z c.in-Some.ensures c.in_ok-pair_with.ensures

pub returns-in_default : goal.returns-in_default
returns-in_default c = adds_none_named c.args.model.now c.args.lines.now c.args.fact c.args.number c.args.other c.args.found.now.items c.in_default.ensures
