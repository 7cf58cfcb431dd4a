-- Where activations end.
use Rattle.flow_model.specs.Graph.{Graph}
use Rattle.certify_facts.specs.declared.fact.Fact.{Fact}
use Rattle.certify_facts.specs.declared.fact.Fact.TheVariants.{Callgraph, At, Link}
use Rattle.certify_facts.specs.Reasons.{IsExit}

-- the fact is at the exit of the function of its activation
abbrev pub IsAtExit : Graph → Fact → Type 0
IsAtExit g (Callgraph k v) = ⊥
IsAtExit g (At k i f v) = IsExit g f v
IsAtExit g (Link i f j h s) = ⊥
