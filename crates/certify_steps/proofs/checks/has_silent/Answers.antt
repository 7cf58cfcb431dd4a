use Rattle.certify_steps.proofs.CheckLemmas.{silent_by}
use Rattle.certify_steps.proofs.checks.has_silent.Goals as goal

pub returns : goal.returns
returns c = silent_by c.args.model.now c.args.from c.args.to c.silent_from.result.now c.does_one_end_at.result c.silent_from.ensures c.does_one_end_at.ensures
