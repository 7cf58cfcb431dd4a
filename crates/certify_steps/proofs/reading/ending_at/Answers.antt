use Rattle.certify_steps.proofs.CheckLemmas.{exit_is}
use Rattle.certify_steps.proofs.reading.ending_at.Goals as goal

pub returns-clause-only : goal.returns-clause-only
returns-clause-only c = λ f at. let (entry, is) = (exit_is c.args.model.now f c.args.node).0 at in c.function_that_ends_at.ensures.only f entry is
