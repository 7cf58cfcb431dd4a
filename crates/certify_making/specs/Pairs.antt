-- For private contracts and proofs alone: what follows from a fact and others at its turn.
use Rattle.std.specs.Prelude.{◌≡◌, ◌⊎◌, ◌↔◌, ℕ, ◌^◌, ◌-◌, List, Contains}
use Rattle.dm_base.specs.declared.event.Event.{Event}
use Rattle.flow_model.specs.Graph.{Graph}
use Rattle.certify_facts.specs.declared.fact.Fact.{Fact}
use Rattle.certify_facts.specs.declared.fact.FactLine.{FactLine}
use Rattle.certify_facts.specs.declared.fact.Reason.TheVariants.{Return}
use Rattle.certify_facts.specs.Confirms.{facts_of}
use Rattle.certify_facts.specs.Reasons.{IsNamed, IsReturnedAlong}
use Rattle.certify_steps.specs.Stepping.{Gives}
use Rattle.certify_making.specs.declared.error.CertifyError.{CertifyError}
use Rattle.certify_making.specs.declared.error.CertifyError.TheVariants.{OutOfMemory, TooLarge}
use Rattle.certify_making.specs.declared.notes.Key.{Key}
use Rattle.certify_making.specs.declared.notes.Notes.{Notes}
use Rattle.certify_making.specs.Adding.{Added, IsOverfull}
use Rattle.certify_making.specs.Notes.{HasKey, HasNote, other_side}

-- the line is of the return from the fact x along the link z, which have the numbers r and n
abbrev pub IsReturnLine : Graph → Fact → ℕ → Fact → ℕ → FactLine → Type 0
IsReturnLine g x r z n l = IsReturnedAlong g x z l.fact × (l.reason ≡ Return r n)

-- the line is of the return by the two facts, which have the numbers r and n
abbrev pub IsPair : Graph → Fact → ℕ → Fact → ℕ → FactLine → Type 0
IsPair g x r z n l = IsReturnLine g x r z n l ⊎ IsReturnLine g z n x r l

-- the line is of the return by the fact, which has the number r, and that with the number n
abbrev pub IsPairWith : Graph → List FactLine → Fact → ℕ → ℕ → FactLine → Type 0
IsPairWith g lines x r n l = (z : Fact) × IsNamed (facts_of lines) n z × IsPair g x r z n l

-- the line is of a return by the fact, which has the number r, and one that is noted
abbrev pub IsPaired : Graph → List FactLine → Notes → Fact → ℕ → FactLine → Type 0
IsPaired g lines notes x r l = (key : Key) × HasKey g x key × ((n : ℕ) × HasNote notes (other_side key) n × IsPairWith g lines x r n l)

-- the line is of what follows from the fact, which has the number r, alone or with one that is noted
abbrev pub IsFound : Graph → List Event → List FactLine → Notes → Fact → ℕ → FactLine → Type 0
IsFound g t lines notes x r l = Gives g t (2 ^ 32 - 1) r x l ⊎ IsPaired g lines notes x r l

-- the new notes are the old ones with the number of the fact, where it is noted
abbrev pub NotesMore : Graph → Fact → ℕ → Notes → Notes → Type 0
NotesMore g x r old new = (key : Key) (n : ℕ) → HasNote new key n ↔ (HasNote old key n ⊎ (HasKey g x key × (n ≡ r)))

-- the fact, which has the number r, had its turn: what follows from it was added, and it was noted
pub record HasTurn (g : Graph) (t : List Event) (x : Fact) (r : ℕ) (lines : List FactLine) (notes : Notes) (lines' : List FactLine) (notes' : Notes) : Type 0 where
  pub found : List FactLine
  pub are : (l : FactLine) → Contains found l ↔ IsFound g t lines notes x r l
  pub added : Added lines found lines'
  pub noted : NotesMore g x r notes notes'

-- what follows from it could not be added
pub record IsTurnedAway (g : Graph) (t : List Event) (x : Fact) (r : ℕ) (lines : List FactLine) (notes : Notes) : Type 0 where
  pub found : List FactLine
  pub are : (l : FactLine) → Contains found l ↔ IsFound g t lines notes x r l
  pub overfull : IsOverfull found lines

abbrev pub CannotTurn : Graph → List Event → Fact → ℕ → List FactLine → Notes → CertifyError → Type 0
CannotTurn g t x r lines notes OutOfMemory = Unit {0}
CannotTurn g t x r lines notes TooLarge = IsTurnedAway g t x r lines notes
