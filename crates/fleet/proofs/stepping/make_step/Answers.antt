use Rattle.std.proofs.Common.{List, ◌++◌, refl, subst, sym}
use Rattle.trace_file.specs.declared.record.Record.{Record}
use Rattle.trace_file.specs.declared.version.TracesVersion.TheVariants.{One}
use Rattle.watch.specs.Watching.{StandsFor as WatchStandsFor}
use Rattle.fleet.proofs.StepLemmas.{added_is, step_at, step_answer}
use Rattle.fleet.proofs.stepping.make_step.Goals as goal

pub returns-in_ok-step-in-Event-clause-records : goal.returns-in_ok-step-in-Event-clause-records
returns-in_ok-step-in-Event-clause-records g c g' k version records stands =
    subst (λ (rs : List Record). WatchStandsFor g.M.Monitor g' k version c.step.new.self (records ++ rs)) (sym (added_is c.args.process.now.pid c.in-Event.event c.in_ok-step-in-Event.step c.answer_after.result c.answer_after.ensures))
    (c.in_ok-step-in-Event.ensures.stands g' k version records stands)

pub returns-in_ok-step-in-Event-clause-at : goal.returns-in_ok-step-in-Event-clause-at
returns-in_ok-step-in-Event-clause-at g c g' records m ready =
    step_at g.M.Monitor.WHICH g' records c.args.process.now _ m ready.at (record { pid = refl; group = refl; results = refl }) c.in_ok-next.next c.in-Event.event c.in_ok-step-in-Event.step c.answer_after.result c.stage_after-process.result c.in-Event.is c.answer_after.ensures c.stage_after-process.ensures c.in_ok-next.ensures.happens c.in_ok-next.ensures.taken (c.in_ok-step-in-Event.ensures.exact g'.model g'.bound One records ready.watch)

pub returns-in_ok-step-in-Event-clause-exact : goal.returns-in_ok-step-in-Event-clause-exact
returns-in_ok-step-in-Event-clause-exact g c g' records m ready =
    step_answer g.M.Monitor.WHICH g' records c.args.process.now (record c.args.process.now { machine = c.next_event.new.machine; taken = c.next_event.new.taken }) m ready.at (record { pid = refl; group = refl; results = refl }) c.in_ok-next.next c.in-Event.event c.in_ok-step-in-Event.step c.answer_after.result c.in-Event.is c.answer_after.ensures c.in_ok-next.ensures.happens c.in_ok-next.ensures.taken (c.in_ok-step-in-Event.ensures.exact g'.model g'.bound One records ready.watch)
