use Rattle.std.proofs.Common.{◌<◌, length, sym, subst}
use Rattle.fleet.specs.declared.process.Process.{Process}
use Rattle.fleet.proofs.PlaceLemmas.{fails_at_defaults, judged_at_defaults, stands_at_defaults}
use Rattle.fleet.proofs.telling.standing_at.Goals as goal

pub bounds-watches-group : goal.bounds-watches-group
bounds-watches-group g c = subst (λ (p : Process). p.group < length c.args.watches.now) (sym c.index-processes-place.is) (c.requires.group c.index-processes-place.result)

pub standing_of-requires : goal.standing_of-requires
standing_of-requires g c =
    judged_at_defaults g.M.Monitor c.args.processes.now c.args.watches.now c.args.place c.index-processes-place.result c.index-watches-group.result c.index-processes-place.is c.index-watches-group.is c.requires.judged

pub returns-clause-exact : goal.returns-clause-exact
returns-clause-exact g c =
    stands_at_defaults g.M.Monitor c.args.processes.now c.args.watches.now c.args.place c.index-processes-place.result c.index-watches-group.result c.standing_of.result c.requires.place
    (subst (λ (p : Process). p.group < length c.args.watches.now) (sym c.index-processes-place.is) (c.requires.group c.index-processes-place.result)) c.index-processes-place.is c.index-watches-group.is c.standing_of.ensures.exact

pub returns-clause-fails : goal.returns-clause-fails
returns-clause-fails g c = fails_at_defaults c.args.processes.now c.args.place c.index-processes-place.result c.standing_of.result c.requires.place c.index-processes-place.is c.standing_of.ensures.fails
