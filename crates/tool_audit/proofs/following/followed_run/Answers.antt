use Rattle.std.proofs.Common.{drop, ◌∙◌, ap, subst}
use Rattle.std.proofs.lemmas.List.Elements.{All-nil}
use Rattle.c_tree.specs.View.{program_of}
use Rattle.c_meaning.specs.Runs.{Run, run, no_marks}
use Rattle.tool_steps.specs.Next.{Next}
use Rattle.tool_steps.specs.Futures.{future}
use Rattle.tool_steps.specs.WholeRuns.{Happens, joined}
use Rattle.tool_steps.proofs.Noting.{end_told, event_on, fewer_to_come}
use Rattle.sys_table.specs.Table.{IsRecorded}
use Rattle.tool_audit.proofs.FollowLemmas.{next_recorded}
use Rattle.tool_audit.proofs.following.followed_run.Goals as goal

pub hear-requires-clause-recorded : goal.hear-requires-clause-recorded
hear-requires-clause-recorded g c =
    let p = program_of c.args.program.now in
    let old = future c.events.machine (drop c.events.taken c.args.records.now) in
    let new = future c.next_event.new.machine (drop c.next_event.new.taken c.args.records.now) in
    let typed = c.values_have_kinds.ensures.runs p c.sites-sites.result c.sites-sites.ensures.typed no_marks (λ site. (All-nil IsRecorded, All-nil IsRecorded)) c.args.records.now c.args.turns in
    next_recorded (run p c.args.records.now c.args.turns) c.events.trace.items c.in-Event.event new typed.trace
    (c.events.invariant.same ∙ ap (λ (r : Run). joined c.events.trace.items r) (subst (λ (next : Next). Happens old next new) c.in-Event.is c.in_ok-next.ensures.happens))

pub events-preserved : goal.events-preserved
events-preserved g c =
    let rs = c.args.records.now in
    let old = future c.events.machine (drop c.events.taken rs) in
    let new = future c.next_event.new.machine (drop c.next_event.new.taken rs) in
    let grown = c.in_ok-push-in-Event.ensures.items in
    record {
      same = event_on (run (program_of c.args.program.now) rs c.args.turns) c.events.trace.items c.push.new.self.items c.in-Event.event old new c.events.invariant.same (subst (λ (next : Next). Happens old next new) c.in-Event.is c.in_ok-next.ensures.happens) grown;
      taken = c.in_ok-next.ensures.taken;
      heard = rw grown (c.in_ok-hear-in-Event.ensures c.args.bound c.events.trace.items c.events.invariant.heard);
    }

pub events-smaller : goal.events-smaller
events-smaller g c =
    let rs = c.args.records.now in
    let old = future c.events.machine (drop c.events.taken rs) in
    let new = future c.next_event.new.machine (drop c.next_event.new.taken rs) in
    fewer_to_come c.in-Event.event old new (subst (λ (next : Next). Happens old next new) c.in-Event.is c.in_ok-next.ensures.happens)
