use Rattle.certify_steps.proofs.CheckLemmas.{entry_by}
use Rattle.certify_steps.proofs.checks.is_entry.Goals as goal

pub returns : goal.returns
returns c = entry_by c.args.model.now c.functions.result.now c.args.function c.args.node c.begins_at.result c.functions.ensures c.begins_at.ensures
