use Rattle.std.proofs.Common.{◌≡◌, ◌↔◌, take}
use Rattle.certify_facts.specs.declared.fact.Fact.{Fact}
use Rattle.dm_base.specs.Adding.{Has}
use Rattle.certify.specs.declared.ends.Activation.{Activation}
use Rattle.certify.specs.Closing.{EndsActivation}
use Rattle.certify.specs.Ends.{HasEnd}
use Rattle.certify.proofs.ends.ends_of.Given as goal

abbrev pub invariant-loop-line : goal.invariant-loop-line
invariant-loop-line l = (a : Activation) (x : Fact) → HasEnd l.ends a x ↔ Has (λ k. (x ≡ k.fact) × EndsActivation l.model a.entered a.function k.fact) (take l.line-index l.lines)
