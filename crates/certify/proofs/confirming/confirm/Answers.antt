use Rattle.certify.proofs.ConfirmLemmas.{verdict_of}
use Rattle.certify.proofs.confirming.confirm.Goals as goal

pub returns-then-branch-clause-verdict : goal.returns-then-branch-clause-verdict
returns-then-branch-clause-verdict c = verdict_of c.args.model.now c.args.trace.now c.args.certificate.now c.lines-lines.result.now c.judge.result c.verdict.result c.verdict-then-branch.result c.in_ok-is_claim-in-None.field-0
    c.lines-lines.ensures.lines c.judge.ensures c.verdict.ensures.verdict c.verdict-then-branch.ensures.verdict c.nodes-nodes.ensures.valid c.lines-lines.ensures.formed c.in-None.ensures.none c.in_ok-is_claim-in-None.ensures c.if-branch.true
