use Rattle.report.proofs.TrialLemmas.{recorded_push}
use Rattle.report.proofs.trials.add_trial.Goals as goal

pub returns-clause-recorded : goal.returns-clause-recorded
returns-clause-recorded c = recorded_push c.args.trials.now.items c.push.new.self.items c.in_ok-event_of.field-0 c.in_ok-push.ensures.items c.in_ok-event_of.ensures.recorded
