use Rattle.std.proofs.Common.{◌+◌, refl, subst, arith}
use Rattle.std.proofs.lemmas.List.{with_items_is}
use Rattle.std.specs.Vec.{with_items}
use Rattle.std.specs.Prelude.{IsErr}
use Rattle.fleet.proofs.AdvanceLemmas.{here_is, moved_in, requires_group, requires_ready, step_exact, step_fails, step_followed, step_others, step_progress, step_refused, step_unfollowed}
use Rattle.fleet.proofs.GroupLemmas.{has_none}
use Rattle.fleet.proofs.fleet.Fleet.step.Goals as goal

pub unreachable-requires : goal.unreachable-requires
unreachable-requires g c =
    let there = c.requires.there in
    has_none g.M.Monitor c.args.self.now there.0 there.1 there.2 c.deref.result.now c.args.pid c.deref.ensures.value c.in_default.ensures.none there.3

pub advance_at-requires-clause-group : goal.advance_at-requires-clause-group
advance_at-requires-clause-group g c =
    let there = c.requires.there in
    requires_group g.M.Monitor c.args.self.now c.args.pid c.in-Some.place c.deref_mut.result.now c.deref_mut-2.result.now c.deref_mut.ensures.value c.deref_mut-2.ensures.value there.0 there.1 there.2 (here_is c.deref.result.now c.args.self.now.processes.items c.in-Some.place c.args.pid c.deref.ensures.value c.in-Some.ensures.some.1)

pub advance_at-requires-clause-ready : goal.advance_at-requires-clause-ready
advance_at-requires-clause-ready g c =
    let there = c.requires.there in
    requires_ready g.M.Monitor c.args.self.now c.args.pid c.in-Some.place c.deref_mut.result.now c.deref_mut-2.result.now c.deref_mut.ensures.value c.deref_mut-2.ensures.value there.0 there.1 there.2 (here_is c.deref.result.now c.args.self.now.processes.items c.in-Some.place c.args.pid c.deref.ensures.value c.in-Some.ensures.some.1) c.requires.few

pub returns-in-Ok-clause-progress : goal.returns-in-Ok-clause-progress
returns-in-Ok-clause-progress g c groups members s = step_progress g.M.Monitor c.args.self.now c.args.pid c.in-Some.place c.deref_mut.result.now c.deref_mut-2.result.now c.deref_mut.ensures.value c.deref_mut-2.ensures.value groups members s (here_is c.deref.result.now c.args.self.now.processes.items c.in-Some.place c.args.pid c.deref.ensures.value c.in-Some.ensures.some.1) (record { alloc = c.args.self.now.alloc; watches = with_items c.args.self.now.watches c.advance_at.new.watches; processes = with_items c.args.self.now.processes c.advance_at.new.processes; taken = c.args.self.now.taken + 1 }) c.advance_at.result c.requires.few (moved_in g.M.Monitor (record { alloc = c.args.self.now.alloc; watches = with_items c.args.self.now.watches c.advance_at.new.watches; processes = with_items c.args.self.now.processes c.advance_at.new.processes; taken = c.args.self.now.taken + 1 }) c.deref_mut.result.now c.advance_at.new.processes c.deref_mut-2.result.now c.advance_at.new.watches c.in-Some.place c.advance_at.result (with_items_is c.args.self.now.processes c.advance_at.new.processes (omega (arith, c.advance_at.auto.processes, c.deref_mut.ensures.len))) (with_items_is c.args.self.now.watches c.advance_at.new.watches (omega (arith, c.advance_at.auto.watches, c.deref_mut-2.ensures.len))) c.advance_at.ensures) c.in-Ok.answer c.in-Ok.is refl

pub returns-in-Ok-clause-exact : goal.returns-in-Ok-clause-exact
returns-in-Ok-clause-exact g c groups members m g' s has is there = step_exact g.M.Monitor c.args.self.now c.args.pid c.in-Some.place c.deref_mut.result.now c.deref_mut-2.result.now c.deref_mut.ensures.value c.deref_mut-2.ensures.value groups members s (here_is c.deref.result.now c.args.self.now.processes.items c.in-Some.place c.args.pid c.deref.ensures.value c.in-Some.ensures.some.1) (record { alloc = c.args.self.now.alloc; watches = with_items c.args.self.now.watches c.advance_at.new.watches; processes = with_items c.args.self.now.processes c.advance_at.new.processes; taken = c.args.self.now.taken + 1 }) c.advance_at.result c.requires.few (moved_in g.M.Monitor (record { alloc = c.args.self.now.alloc; watches = with_items c.args.self.now.watches c.advance_at.new.watches; processes = with_items c.args.self.now.processes c.advance_at.new.processes; taken = c.args.self.now.taken + 1 }) c.deref_mut.result.now c.advance_at.new.processes c.deref_mut-2.result.now c.advance_at.new.watches c.in-Some.place c.advance_at.result (with_items_is c.args.self.now.processes c.advance_at.new.processes (omega (arith, c.advance_at.auto.processes, c.deref_mut.ensures.len))) (with_items_is c.args.self.now.watches c.advance_at.new.watches (omega (arith, c.advance_at.auto.watches, c.deref_mut-2.ensures.len))) c.advance_at.ensures) c.in-Ok.answer c.in-Ok.is m g' has is there

pub returns-in-Ok-clause-followed : goal.returns-in-Ok-clause-followed
returns-in-Ok-clause-followed g c groups members m g' r w s has is there alone watched = step_followed g.M.Monitor c.args.self.now c.args.pid c.in-Some.place c.deref_mut.result.now c.deref_mut-2.result.now c.deref_mut.ensures.value c.deref_mut-2.ensures.value groups members s (here_is c.deref.result.now c.args.self.now.processes.items c.in-Some.place c.args.pid c.deref.ensures.value c.in-Some.ensures.some.1) (record { alloc = c.args.self.now.alloc; watches = with_items c.args.self.now.watches c.advance_at.new.watches; processes = with_items c.args.self.now.processes c.advance_at.new.processes; taken = c.args.self.now.taken + 1 }) c.advance_at.result c.requires.few (moved_in g.M.Monitor (record { alloc = c.args.self.now.alloc; watches = with_items c.args.self.now.watches c.advance_at.new.watches; processes = with_items c.args.self.now.processes c.advance_at.new.processes; taken = c.args.self.now.taken + 1 }) c.deref_mut.result.now c.advance_at.new.processes c.deref_mut-2.result.now c.advance_at.new.watches c.in-Some.place c.advance_at.result (with_items_is c.args.self.now.processes c.advance_at.new.processes (omega (arith, c.advance_at.auto.processes, c.deref_mut.ensures.len))) (with_items_is c.args.self.now.watches c.advance_at.new.watches (omega (arith, c.advance_at.auto.watches, c.deref_mut-2.ensures.len))) c.advance_at.ensures) c.in-Ok.answer c.in-Ok.is m g' r w has is there alone watched

pub returns-in-Ok-clause-others : goal.returns-in-Ok-clause-others
returns-in-Ok-clause-others g c groups members m i s has is other = step_others g.M.Monitor c.args.self.now c.args.pid c.in-Some.place c.deref_mut.result.now c.deref_mut-2.result.now c.deref_mut.ensures.value c.deref_mut-2.ensures.value groups members s (here_is c.deref.result.now c.args.self.now.processes.items c.in-Some.place c.args.pid c.deref.ensures.value c.in-Some.ensures.some.1) (record { alloc = c.args.self.now.alloc; watches = with_items c.args.self.now.watches c.advance_at.new.watches; processes = with_items c.args.self.now.processes c.advance_at.new.processes; taken = c.args.self.now.taken + 1 }) c.advance_at.result c.requires.few (moved_in g.M.Monitor (record { alloc = c.args.self.now.alloc; watches = with_items c.args.self.now.watches c.advance_at.new.watches; processes = with_items c.args.self.now.processes c.advance_at.new.processes; taken = c.args.self.now.taken + 1 }) c.deref_mut.result.now c.advance_at.new.processes c.deref_mut-2.result.now c.advance_at.new.watches c.in-Some.place c.advance_at.result (with_items_is c.args.self.now.processes c.advance_at.new.processes (omega (arith, c.advance_at.auto.processes, c.deref_mut.ensures.len))) (with_items_is c.args.self.now.watches c.advance_at.new.watches (omega (arith, c.advance_at.auto.watches, c.deref_mut-2.ensures.len))) c.advance_at.ensures) m i has is other

pub returns-in-Ok-clause-fails : goal.returns-in-Ok-clause-fails
returns-in-Ok-clause-fails g c groups members m s has is failed = subst IsErr c.in-Ok.is (step_fails g.M.Monitor c.args.self.now c.args.pid c.in-Some.place c.deref_mut.result.now c.deref_mut-2.result.now c.deref_mut.ensures.value c.deref_mut-2.ensures.value groups members s (here_is c.deref.result.now c.args.self.now.processes.items c.in-Some.place c.args.pid c.deref.ensures.value c.in-Some.ensures.some.1) (record { alloc = c.args.self.now.alloc; watches = with_items c.args.self.now.watches c.advance_at.new.watches; processes = with_items c.args.self.now.processes c.advance_at.new.processes; taken = c.args.self.now.taken + 1 }) c.advance_at.result c.requires.few (moved_in g.M.Monitor (record { alloc = c.args.self.now.alloc; watches = with_items c.args.self.now.watches c.advance_at.new.watches; processes = with_items c.args.self.now.processes c.advance_at.new.processes; taken = c.args.self.now.taken + 1 }) c.deref_mut.result.now c.advance_at.new.processes c.deref_mut-2.result.now c.advance_at.new.watches c.in-Some.place c.advance_at.result (with_items_is c.args.self.now.processes c.advance_at.new.processes (omega (arith, c.advance_at.auto.processes, c.deref_mut.ensures.len))) (with_items_is c.args.self.now.watches c.advance_at.new.watches (omega (arith, c.advance_at.auto.watches, c.deref_mut-2.ensures.len))) c.advance_at.ensures) m has is failed)

pub returns-in-Err-clause-others : goal.returns-in-Err-clause-others
returns-in-Err-clause-others g c groups members m i s has is other = step_others g.M.Monitor c.args.self.now c.args.pid c.in-Some.place c.deref_mut.result.now c.deref_mut-2.result.now c.deref_mut.ensures.value c.deref_mut-2.ensures.value groups members s (here_is c.deref.result.now c.args.self.now.processes.items c.in-Some.place c.args.pid c.deref.ensures.value c.in-Some.ensures.some.1) (record { alloc = c.args.self.now.alloc; watches = with_items c.args.self.now.watches c.advance_at.new.watches; processes = with_items c.args.self.now.processes c.advance_at.new.processes; taken = c.args.self.now.taken }) c.advance_at.result c.requires.few (moved_in g.M.Monitor (record { alloc = c.args.self.now.alloc; watches = with_items c.args.self.now.watches c.advance_at.new.watches; processes = with_items c.args.self.now.processes c.advance_at.new.processes; taken = c.args.self.now.taken }) c.deref_mut.result.now c.advance_at.new.processes c.deref_mut-2.result.now c.advance_at.new.watches c.in-Some.place c.advance_at.result (with_items_is c.args.self.now.processes c.advance_at.new.processes (omega (arith, c.advance_at.auto.processes, c.deref_mut.ensures.len))) (with_items_is c.args.self.now.watches c.advance_at.new.watches (omega (arith, c.advance_at.auto.watches, c.deref_mut-2.ensures.len))) c.advance_at.ensures) m i has is other

pub returns-in-Err-clause-refused : goal.returns-in-Err-clause-refused
returns-in-Err-clause-refused g c groups members s = step_refused g.M.Monitor c.args.self.now c.args.pid c.in-Some.place c.deref_mut.result.now c.deref_mut-2.result.now c.deref_mut.ensures.value c.deref_mut-2.ensures.value groups members s (here_is c.deref.result.now c.args.self.now.processes.items c.in-Some.place c.args.pid c.deref.ensures.value c.in-Some.ensures.some.1) (record { alloc = c.args.self.now.alloc; watches = with_items c.args.self.now.watches c.advance_at.new.watches; processes = with_items c.args.self.now.processes c.advance_at.new.processes; taken = c.args.self.now.taken }) c.advance_at.result c.requires.few (moved_in g.M.Monitor (record { alloc = c.args.self.now.alloc; watches = with_items c.args.self.now.watches c.advance_at.new.watches; processes = with_items c.args.self.now.processes c.advance_at.new.processes; taken = c.args.self.now.taken }) c.deref_mut.result.now c.advance_at.new.processes c.deref_mut-2.result.now c.advance_at.new.watches c.in-Some.place c.advance_at.result (with_items_is c.args.self.now.processes c.advance_at.new.processes (omega (arith, c.advance_at.auto.processes, c.deref_mut.ensures.len))) (with_items_is c.args.self.now.watches c.advance_at.new.watches (omega (arith, c.advance_at.auto.watches, c.deref_mut-2.ensures.len))) c.advance_at.ensures) c.in-Err.error c.in-Err.is refl

pub returns-in-Err-clause-unfollowed : goal.returns-in-Err-clause-unfollowed
returns-in-Err-clause-unfollowed g c groups members m w s has is watched = step_unfollowed g.M.Monitor c.args.self.now c.args.pid c.in-Some.place c.deref_mut.result.now c.deref_mut-2.result.now c.deref_mut.ensures.value c.deref_mut-2.ensures.value groups members s (here_is c.deref.result.now c.args.self.now.processes.items c.in-Some.place c.args.pid c.deref.ensures.value c.in-Some.ensures.some.1) (record { alloc = c.args.self.now.alloc; watches = with_items c.args.self.now.watches c.advance_at.new.watches; processes = with_items c.args.self.now.processes c.advance_at.new.processes; taken = c.args.self.now.taken }) c.advance_at.result c.requires.few (moved_in g.M.Monitor (record { alloc = c.args.self.now.alloc; watches = with_items c.args.self.now.watches c.advance_at.new.watches; processes = with_items c.args.self.now.processes c.advance_at.new.processes; taken = c.args.self.now.taken }) c.deref_mut.result.now c.advance_at.new.processes c.deref_mut-2.result.now c.advance_at.new.watches c.in-Some.place c.advance_at.result (with_items_is c.args.self.now.processes c.advance_at.new.processes (omega (arith, c.advance_at.auto.processes, c.deref_mut.ensures.len))) (with_items_is c.args.self.now.watches c.advance_at.new.watches (omega (arith, c.advance_at.auto.watches, c.deref_mut-2.ensures.len))) c.advance_at.ensures) c.in-Err.error c.in-Err.is m w has is watched
