use Rattle.std.proofs.Math.Nat.{div-le_self}
use Rattle.dm_sets.proofs.Words.{first_place, no_place}
use Rattle.dm_sets.proofs.node_set.first_in_word.Goals as goal

pub returns-then-rest-eq0-clause-none : goal.returns-then-rest-eq0-clause-none
returns-then-rest-eq0-clause-none c = λ j le _. no_place c.args.word c.args.low c.if-rest-eq0.true j le

pub returns-clause-some : goal.returns-clause-some
returns-clause-some c =
    let at = first_place c.args.word c.args.low c.ranges.word.fits (div-le_self _ _) c.if-rest-eq0.false in
    (at.from, at.within, at.is)

pub returns-clause-least : goal.returns-clause-least
returns-clause-least c = (first_place c.args.word c.args.low c.ranges.word.fits (div-le_self _ _) c.if-rest-eq0.false).least
