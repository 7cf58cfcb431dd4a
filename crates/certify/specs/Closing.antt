-- For private contracts and proofs alone: facts that are known, and what is asked of them.
use Rattle.std.specs.Prelude.{◌≡◌, ◌↔◌, ℕ, List, Contains}
use Rattle.dm_base.specs.declared.event.Event.{Event}
use Rattle.flow_model.specs.Graph.{Graph}
use Rattle.certify_facts.specs.declared.fact.Fact.{Fact}
use Rattle.certify_facts.specs.declared.fact.Fact.TheVariants as facts
use Rattle.certify_facts.specs.Confirms.{IsAfter, IsWithin}
use Rattle.certify_facts.specs.Reasons.{IsExit, IsRead, IsReturnedAlong, FollowsFrom}

-- the same facts stand in both lists
abbrev pub AreSame : List Fact → List Fact → Type 0
AreSame known other = (x : Fact) → Contains known x ↔ Contains other x

-- the fact is after so many events, and a step by the next one follows it
abbrev pub GoesPast : Graph → List Event → ℕ → Fact → Type 0
GoesPast g t m x = IsAfter m x × ((y : Fact) × IsRead g t x y)

-- what follows from the fact alone is known
abbrev pub IsFollowed : Graph → List Event → ℕ → List Fact → Fact → Type 0
IsFollowed g t m known x = (y : Fact) → FollowsFrom g t x y → IsWithin m y → Contains known y

-- the fact is at the exit of the function f, in an activation that was entered after i events
abbrev pub EndsActivation : Graph → ℕ → ℕ → Fact → Type 0
EndsActivation g i f (facts.Callgraph k v) = ⊥
EndsActivation g i f (facts.At k i' f' v) = (i' ≡ i) × (f' ≡ f) × IsExit g f v
EndsActivation g i f (facts.Link i' f' j h s) = ⊥

-- what follows from the fact and the link is known
abbrev pub IsReturnKnown : Graph → ℕ → List Fact → Fact → Fact → Type 0
IsReturnKnown g m known x z = (y : Fact) → IsReturnedAlong g x z y → IsWithin m y → Contains known y
