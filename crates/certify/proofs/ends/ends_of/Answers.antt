use Rattle.std.proofs.Common.{◌≡◌}
use Rattle.certify_facts.specs.declared.fact.FactLine.{FactLine}
use Rattle.certify.specs.Closing.{EndsActivation}
use Rattle.certify.proofs.EndsLemmas.{notes_none, notes_more, notes_all}
use Rattle.certify.proofs.ends.ends_of.Goals as goal

pub loop-line-init : goal.loop-line-init
loop-line-init c = notes_none (λ (k : FactLine) a x. (x ≡ k.fact) × EndsActivation c.args.model.now a.entered a.function k.fact) _ c.new-ends.ensures

pub loop-line-preserved : goal.loop-line-preserved
loop-line-preserved c = notes_more (λ (k : FactLine) a x. (x ≡ k.fact) × EndsActivation c.args.model.now a.entered a.function k.fact) _ _ c.args.lines.now c.loop-line.line-index _ c.loop-line-test.true c.loop-line.invariant c.in_ok-note_end.ensures

pub returns : goal.returns
returns c = notes_all (λ (k : FactLine) a x. (x ≡ k.fact) × EndsActivation c.args.model.now a.entered a.function k.fact) _ c.args.lines.now c.loop-line.line-index c.loop-line-test.false c.loop-line.invariant
