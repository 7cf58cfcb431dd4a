use Rattle.std.proofs.Common.{◌++◌, length, subst, sym}
use Rattle.dm_base.specs.declared.verdict.Verdict.TheVariants as verdicts
use Rattle.trace_file.specs.declared.version.TracesVersion.TheVariants.{One}
use Rattle.watch.specs.Own.{own}
use Rattle.watch.specs.Watching.{StandsFor as WatchStandsFor}
use Rattle.fleet.specs.declared.process.Stage.{Stage}
use Rattle.fleet.specs.declared.process.Stage.TheVariants as stages
use Rattle.fleet.specs.Going.{IsAt, IsAtStage, added_at}
use Rattle.fleet.specs.Members.{one_more}
use Rattle.fleet.proofs.RefusalLemmas.{has_bound, has_rejected}
use Rattle.fleet.proofs.StepLemmas.{ready_moved, rejected_verdict, rejected_answer, bound_verdict, bound_answer}
use Rattle.fleet.proofs.stepping.advance.Goals as goal

pub returns-in_ok-answer-in-Open-clause-records : goal.returns-in_ok-answer-in-Open-clause-records
returns-in_ok-answer-in-Open-clause-records g c g' k version records stands =
    subst (λ (s : Stage). WatchStandsFor g.M.Monitor g' k version c.make_step.new.watch (records ++ added_at c.args.process.now.pid s c.in_ok-answer-in-Open.answer)) c.in-Open.ensures.value
    (c.in_ok-answer-in-Open.ensures.records g' k version records stands)

pub returns-in_ok-answer-in-Open-clause-at : goal.returns-in_ok-answer-in-Open-clause-at
returns-in_ok-answer-in-Open-clause-at g c g' records m ready =
    subst (λ (s : Stage). IsAt g.M.Monitor.WHICH g' (records ++ added_at c.args.process.now.pid s c.in_ok-answer-in-Open.answer) c.make_step.new.process (one_more m)) c.in-Open.ensures.value
    (c.in_ok-answer-in-Open.ensures.at g' records m (ready_moved g.M.Monitor g' records c.args.watch.now c.args.process.now.stage stages.Open c.replace-stage.new.dest c.args.process.now m c.in-Open.ensures.value ready))

pub event_refused-requires : goal.event_refused-requires
event_refused-requires g c =
    let ready = c.requires.3 in
    has_rejected g.M.Monitor c.requires.0 c.requires.1 c.args.watch.now c.args.process.now c.requires.2 ready.watch
    (subst (λ (s : Stage). IsAtStage g.M.Monitor.WHICH c.requires.0 s c.requires.1 c.args.process.now c.requires.2) (sym c.in-Rejected.ensures.value) ready.at)

pub event_refused-requires-in-Bound : goal.event_refused-requires-in-Bound
event_refused-requires-in-Bound g c =
    let ready = c.requires.3 in
    has_bound g.M.Monitor c.requires.0 c.requires.1 c.args.watch.now c.args.process.now c.requires.2 ready.watch
    (subst (λ (s : Stage). IsAtStage g.M.Monitor.WHICH c.requires.0 s c.requires.1 c.args.process.now c.requires.2) (sym c.in-Bound.ensures.value) ready.at)

pub returns-in_ok-event-in-Rejected-clause-exact : goal.returns-in_ok-event-in-Rejected-clause-exact
returns-in_ok-event-in-Rejected-clause-exact g c g' records m ready =
    let at = subst (λ (s : Stage). IsAtStage g.M.Monitor.WHICH g' s records c.args.process.now m) (sym c.in-Rejected.ensures.value) ready.at in
    let here = c.in_ok-event-in-Rejected.ensures g'.model g'.bound One records (verdicts.Rejected (length (own One c.args.process.now.pid records))) ready.watch (rejected_verdict g.M.Monitor.WHICH g' records c.args.process.now m at) in
    rejected_answer g.M.Monitor.WHICH g' records c.args.process.now m c.in_ok-event-in-Rejected.event at ready.at.pid here

pub returns-in_ok-event-in-Bound-clause-exact : goal.returns-in_ok-event-in-Bound-clause-exact
returns-in_ok-event-in-Bound-clause-exact g c g' records m ready =
    let at = subst (λ (s : Stage). IsAtStage g.M.Monitor.WHICH g' s records c.args.process.now m) (sym c.in-Bound.ensures.value) ready.at in
    let here = c.in_ok-event-in-Bound.ensures g'.model g'.bound One records (verdicts.Bound (length (own One c.args.process.now.pid records))) ready.watch (bound_verdict g.M.Monitor.WHICH g' records c.args.process.now m at) in
    bound_answer g.M.Monitor.WHICH g' records c.args.process.now m c.in_ok-event-in-Bound.event at ready.at.pid here
