use Rattle.std.proofs.Common.{length, subst}
use Rattle.dm_base.specs.declared.verdict.Verdict.TheVariants as verdicts
use Rattle.trace_file.specs.declared.version.TracesVersion.TheVariants.{One}
use Rattle.watch.specs.Own.{own}
use Rattle.fleet.specs.declared.process.Stage.{Stage}
use Rattle.fleet.specs.Going.{IsAtStage}
use Rattle.fleet.proofs.RefusalLemmas.{has_bound, has_rejected}
use Rattle.fleet.proofs.TellingLemmas.{bound_stands, ended_stands, open_stands, rejected_stands}
use Rattle.fleet.proofs.telling.standing_of.Goals as goal

pub returns-in-Open-clause-exact : goal.returns-in-Open-clause-exact
returns-in-Open-clause-exact g c g' records m watch at =
    open_stands g.M.Monitor.WHICH g' records c.args.process.now m c.made_of-made.result c.in-Open.is at (c.made_of-made.ensures g'.model g'.bound records watch)

pub event_refused-requires : goal.event_refused-requires
event_refused-requires g c =
    has_rejected g.M.Monitor c.requires.0 c.requires.1 c.args.watch.now c.args.process.now c.requires.2 c.requires.3
    (subst (λ (s : Stage). IsAtStage g.M.Monitor.WHICH c.requires.0 s c.requires.1 c.args.process.now c.requires.2) c.in-Rejected.is c.requires.4)

pub event_refused-requires-in-Bound : goal.event_refused-requires-in-Bound
event_refused-requires-in-Bound g c =
    has_bound g.M.Monitor c.requires.0 c.requires.1 c.args.watch.now c.args.process.now c.requires.2 c.requires.3
    (subst (λ (s : Stage). IsAtStage g.M.Monitor.WHICH c.requires.0 s c.requires.1 c.args.process.now c.requires.2) c.in-Bound.is c.requires.4)

pub returns-in_ok-event-in-Rejected-clause-exact : goal.returns-in_ok-event-in-Rejected-clause-exact
returns-in_ok-event-in-Rejected-clause-exact g c g' records m watch at =
    rejected_stands g.M.Monitor.WHICH g' records c.args.process.now m c.made_of-made.result c.in_ok-event-in-Rejected.event c.in-Rejected.is at (c.made_of-made.ensures g'.model g'.bound records watch)
    (c.in_ok-event-in-Rejected.ensures g'.model g'.bound One records (verdicts.Rejected (length (own One c.args.process.now.pid records))) watch)

pub returns-in_ok-event-in-Bound-clause-exact : goal.returns-in_ok-event-in-Bound-clause-exact
returns-in_ok-event-in-Bound-clause-exact g c g' records m watch at =
    bound_stands g.M.Monitor.WHICH g' records c.args.process.now m c.made_of-made.result c.in_ok-event-in-Bound.event c.in-Bound.is at (c.made_of-made.ensures g'.model g'.bound records watch)
    (c.in_ok-event-in-Bound.ensures g'.model g'.bound One records (verdicts.Bound (length (own One c.args.process.now.pid records))) watch)

pub returns-in-Ended-clause-exact : goal.returns-in-Ended-clause-exact
returns-in-Ended-clause-exact g c g' records m watch at =
    rw c.ended.ensures (ended_stands g.M.Monitor.WHICH g' records c.args.process.now m c.made_of-made.result c.in-Ended.outcome c.in-Ended.is at (c.made_of-made.ensures g'.model g'.bound records watch))
