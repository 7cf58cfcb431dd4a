-- For private contracts and proofs alone: the facts at the exits of activations.
use Rattle.std.specs.Prelude.{Contains, IsSomeAnd}
use Rattle.indexmap.specs.IndexMap.{get}
use Rattle.certify_facts.specs.declared.fact.Fact.{Fact}
use Rattle.certify_facts.specs.declared.fact.Fact.TheVariants as facts
use Rattle.certify.specs.declared.ends.Activation.{Activation}
use Rattle.certify.specs.declared.ends.Ends.{Ends}
use Rattle.certify.specs.contracts.ends.ActivationPartialEq.TheImpl.{eq-value as activation_eq}

-- the fact is noted for the activation
abbrev pub HasEnd : Ends → Activation → Fact → Type 0
HasEnd ends a x = IsSomeAnd (get activation_eq.it ends.lists a) (λ v. Contains v.items x)

-- the fact is noted for the activation of the link
abbrev pub HasEndOf : Ends → Fact → Fact → Type 0
HasEndOf ends (facts.Callgraph k v) x = ⊥
HasEndOf ends (facts.At k i f v) x = ⊥
HasEndOf ends (facts.Link i f j h s) x = HasEnd ends (record { entered = i; function = f }) x
