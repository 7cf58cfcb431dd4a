use Rattle.std.proofs.Common.{refl}
use Rattle.report.proofs.TrialLemmas.{filled_fit}
use Rattle.report.proofs.trials.event_of.Goals as goal

pub returns-clause-fits : goal.returns-clause-fits
returns-clause-fits c = (refl, filled_fit c.args.pattern.now c.in_ok-args.args c.in_ok-args.ensures.entry)
