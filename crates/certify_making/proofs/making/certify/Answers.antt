use Rattle.certify_making.proofs.MadeLemmas.{counted_told, few_follow, made_told}
use Rattle.certify_making.proofs.making.certify.Goals as goal

pub new-requires-clause-counted : goal.new-requires-clause-counted
new-requires-clause-counted c = counted_told c.args.judge c.args.model.now c.args.trace.now c.saturate.new.facts.lines.items c.deref.result.now c.deepest-events.result c.verdict_at.result (c.in-Ok.ensures.closed c.args.judge c.in_ok-facts.ensures.begun) (c.in-Ok.ensures.kept).few
    c.deref.ensures.value c.deepest-events.ensures c.verdict_at.ensures

pub returns-clause-made : goal.returns-clause-made
returns-clause-made c = made_told c.args.judge c.args.model.now c.args.trace.now c.saturate.new.facts.lines.items c.deref.result.now c.deepest-events.result c.verdict_at.result (c.in-Ok.ensures.closed c.args.judge c.in_ok-facts.ensures.begun) (c.in-Ok.ensures.kept).few
    c.deref.ensures.value c.deepest-events.ensures c.verdict_at.ensures c.new.result c.nodes-nodes.ensures.valid c.new.ensures

pub returns-clause-many : goal.returns-clause-many
returns-clause-many c = λ many. few_follow c.args.judge c.args.model.now c.args.trace.now c.new.result (returns-clause-made c) many
