use Rattle.certify_facts.specs.contracts.fact.FactPartialEq.TheImpl.{eq-value as fact_eq}
use Rattle.certify.proofs.KnownLemmas.{known_more, known_all, key_added, fact_exact, fact_same}
use Rattle.certify.proofs.known.known_facts.Goals as goal

pub loop-line-preserved : goal.loop-line-preserved
loop-line-preserved c = known_more c.loop-line.known.keys c.insert.new.self.keys c.args.lines.now c.loop-line.line-index _ c.loop-line-test.true c.loop-line.invariant
    (λ x. key_added fact_eq.it fact_exact fact_same c.loop-line.known.keys c.insert.new.self.keys _ x c.in_ok-insert.ensures.keys)

pub returns : goal.returns
returns c = known_all c.loop-line.known.keys c.args.lines.now c.loop-line.line-index c.loop-line-test.false c.loop-line.invariant
