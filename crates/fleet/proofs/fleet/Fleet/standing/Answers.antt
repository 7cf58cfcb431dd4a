use Rattle.std.proofs.Common.{subst}
use Rattle.std.specs.Prelude.{IsErr}
use Rattle.fleet.proofs.AdvanceLemmas.{here_is, requires_group, requires_judged, stands_failed, stands_so, stands_tellable}
use Rattle.fleet.proofs.GroupLemmas.{has_none}
use Rattle.fleet.proofs.fleet.Fleet.standing.Goals as goal

pub unreachable-requires : goal.unreachable-requires
unreachable-requires g c =
    let there = c.requires in
    has_none g.M.Monitor c.args.self.now there.0 there.1 there.2 c.deref.result.now c.args.pid c.deref.ensures.value c.in_default.ensures.none there.3

pub standing_at-requires-clause-group : goal.standing_at-requires-clause-group
standing_at-requires-clause-group g c =
    let there = c.requires in
    requires_group g.M.Monitor c.args.self.now c.args.pid c.in-Some.place c.deref-2.result.now c.deref-3.result.now c.deref-2.ensures.value c.deref-3.ensures.value there.0 there.1 there.2 (here_is c.deref.result.now c.args.self.now.processes.items c.in-Some.place c.args.pid c.deref.ensures.value c.in-Some.ensures.some.1)

pub standing_at-requires-clause-judged : goal.standing_at-requires-clause-judged
standing_at-requires-clause-judged g c =
    let there = c.requires in
    requires_judged g.M.Monitor c.args.self.now c.args.pid c.in-Some.place c.deref-2.result.now c.deref-3.result.now c.deref-2.ensures.value c.deref-3.ensures.value there.0 there.1 there.2 (here_is c.deref.result.now c.args.self.now.processes.items c.in-Some.place c.args.pid c.deref.ensures.value c.in-Some.ensures.some.1)

pub returns-clause-exact : goal.returns-clause-exact
returns-clause-exact g c groups members m g' s has is there =
    stands_so g.M.Monitor c.args.self.now c.args.pid c.in-Some.place c.deref-2.result.now c.deref-3.result.now c.deref-2.ensures.value c.deref-3.ensures.value groups members s (here_is c.deref.result.now c.args.self.now.processes.items c.in-Some.place c.args.pid c.deref.ensures.value c.in-Some.ensures.some.1)
    c.in_ok-standing.standing c.in_ok-standing.ensures.exact m g' has is there

pub returns-clause-tellable : goal.returns-clause-tellable
returns-clause-tellable g c =
    let there = c.requires in
    stands_tellable g.M.Monitor c.args.self.now c.args.pid c.in-Some.place c.deref-2.result.now c.deref-3.result.now c.deref-2.ensures.value c.deref-3.ensures.value there.0 there.1 there.2 (here_is c.deref.result.now c.args.self.now.processes.items c.in-Some.place c.args.pid c.deref.ensures.value c.in-Some.ensures.some.1)
    c.in_ok-standing.standing c.in_ok-standing.ensures.exact

pub returns-clause-fails : goal.returns-clause-fails
returns-clause-fails g c groups members m s has is failed =
    subst IsErr c.in_ok-standing.was
    (stands_failed g.M.Monitor c.args.self.now c.args.pid c.in-Some.place c.deref-2.result.now c.deref-3.result.now c.deref-2.ensures.value c.deref-3.ensures.value groups members s (here_is c.deref.result.now c.args.self.now.processes.items c.in-Some.place c.args.pid c.deref.ensures.value c.in-Some.ensures.some.1)
    c.standing_at.result c.standing_at.ensures.fails m has is failed)
