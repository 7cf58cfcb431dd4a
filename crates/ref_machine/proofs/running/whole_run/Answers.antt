use Rattle.std.proofs.Common.{drop, subst}
use Rattle.c_tree.specs.View.{program_of}
use Rattle.c_meaning.specs.Runs.{run}
use Rattle.ref_machine.specs.declared.next.Next.{Next}
use Rattle.ref_machine.specs.Futures.{future}
use Rattle.ref_machine.specs.WholeRuns.{Happens}
use Rattle.ref_machine.proofs.Noting.{end_told, event_on, fewer_to_come}
use Rattle.ref_machine.proofs.running.whole_run.Goals as goal

pub events-preserved : goal.events-preserved
events-preserved c =
    let rs = c.args.results.now in
    let old = future c.events.machine (drop c.events.taken rs) in
    let new = future c.next_event.new.machine (drop c.next_event.new.taken rs) in
    record {
      same = event_on (run (program_of c.args.program.now) rs c.args.turns) c.events.trace.items c.push.new.self.items c.in-Event.event old new c.events.invariant.same (subst (λ (next : Next). Happens old next new) c.in-Event.is c.in_ok-next.ensures.happens) c.in_ok-push-in-Event.ensures.items;
      taken = c.in_ok-next.ensures.taken;
    }

pub events-smaller : goal.events-smaller
events-smaller c =
    let rs = c.args.results.now in
    let old = future c.events.machine (drop c.events.taken rs) in
    let new = future c.next_event.new.machine (drop c.next_event.new.taken rs) in
    fewer_to_come c.in-Event.event old new (subst (λ (next : Next). Happens old next new) c.in-Event.is c.in_ok-next.ensures.happens)

pub returns-in-End : goal.returns-in-End
returns-in-End c =
    let rs = c.args.results.now in
    let old = future c.events.machine (drop c.events.taken rs) in
    let new = future c.next_event.new.machine (drop c.next_event.new.taken rs) in
    end_told (run (program_of c.args.program.now) rs c.args.turns) c.events.trace.items old c.in-End.outcome c.events.invariant.same (subst (λ (next : Next). Happens old next new) c.in-End.is c.in_ok-next.ensures.happens)
