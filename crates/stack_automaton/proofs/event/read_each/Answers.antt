use Rattle.stack_automaton.specs.Moving.{IsRead}
use Rattle.dm_base.proofs.AddingLemmas.{adds_step, adds_end}
use Rattle.stack_automaton.proofs.event.read_each.Goals as goal

pub loop-one-preserved : goal.loop-one-preserved
loop-one-preserved c = adds_step c.args.facts.now.keys c.loop-one.facts.keys c.read_one.new.facts.keys (λ s x. IsRead c.args.event.now c.args.edge x s) c.args.sys.now c.loop-one.one-index c.one-item.result c.loop-one-test.true c.one-item.is c.loop-one.invariant c.in_ok-read_one.ensures

pub returns : goal.returns
returns c = adds_end c.args.facts.now.keys c.loop-one.facts.keys (λ s x. IsRead c.args.event.now c.args.edge x s) c.args.sys.now c.loop-one.one-index c.loop-one-test.false c.loop-one.invariant
