-- For private contracts and proofs alone: the numbers of facts that are noted of activations.
use Rattle.std.specs.Prelude.{◌≡◌, ℕ, Contains, IsSomeAnd}
use Rattle.indexmap.specs.IndexMap.{get}
use Rattle.flow_model.specs.Graph.{Graph}
use Rattle.certify_facts.specs.declared.fact.Fact.{Fact}
use Rattle.certify_facts.specs.declared.fact.Fact.TheVariants as facts
use Rattle.certify_facts.specs.Reasons.{IsExit}
use Rattle.certify_making.specs.declared.notes.Key.{Key}
use Rattle.certify_making.specs.declared.notes.Key.TheVariants.{Exits, Links}
use Rattle.certify_making.specs.declared.notes.Notes.{Notes}
use Rattle.certify_making.specs.contracts.notes.KeyPartialEq.TheImpl.{eq-value as key_eq}

-- the number is noted under the key
abbrev pub HasNote : Notes → Key → ℕ → Type 0
HasNote notes key n = IsSomeAnd (get key_eq.it notes.lists key) (λ v. Contains v.items n)

-- the fact is noted under the key
abbrev pub HasKey : Graph → Fact → Key → Type 0
HasKey g (facts.Callgraph k v) key = ⊥
HasKey g (facts.At k i f v) key = IsExit g f v × (key ≡ Exits i f)
HasKey g (facts.Link i f j h s) key = key ≡ Links i f

-- the key of the facts with which those of the key give returns
abbrev pub other_side : Key → Key
other_side (Exits i f) = Links i f
other_side (Links i f) = Exits i f
