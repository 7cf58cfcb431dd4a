use Rattle.dm_base.specs.declared.verdict.Verdict.TheVariants.{Accepted}
use Rattle.tool_models.proofs.FoundLemmas.{statuses_next}
use Rattle.tool_models.proofs.findings.status_of_all.Goals as goal

pub loop-verdict-preserved : goal.loop-verdict-preserved
loop-verdict-preserved c =
    statuses_next c.args.verdicts.now c.loop-verdict.verdict-index (Accepted 0) c.loop-verdict.status c.status_of.result c.worse-status.result c.loop-verdict-test.true c.loop-verdict.invariant c.status_of.ensures c.worse-status.ensures
