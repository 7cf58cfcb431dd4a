use Rattle.certify_steps.proofs.CheckLemmas.{exit_by}
use Rattle.certify_steps.proofs.checks.is_exit.Goals as goal

pub returns : goal.returns
returns c = exit_by c.args.model.now c.functions.result.now c.args.function c.args.node c.ends_at.result c.functions.ensures c.ends_at.ensures
