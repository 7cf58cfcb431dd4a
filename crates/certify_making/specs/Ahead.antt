-- For private contracts and proofs alone: how far the facts of a certificate have been gathered.
use Rattle.std.specs.Prelude.{◌≡◌, ◌≢◌, ◌⊎◌, ℕ, ◌+◌, ◌<◌, ◌≤◌, List, [], ◌∷◌, if◌then◌else◌, nat_eq, All, AllPairs, Contains, Some, length, slice_get}
use Rattle.dm_base.specs.declared.event.Event.{Event}
use Rattle.dm_base.specs.declared.verdict.Verdict.{Verdict}
use Rattle.dm_base.specs.declared.verdict.Verdict.TheVariants.{Accepted, Rejected}
use Rattle.flow_model.specs.Graph.{Graph}
use Rattle.certify_facts.specs.declared.fact.Fact.{Fact}
use Rattle.certify_facts.specs.declared.fact.Fact.TheVariants as facts
use Rattle.certify_facts.specs.declared.fact.FactLine.{FactLine}
use Rattle.certify_facts.specs.declared.fact.Judge.{Judge}
use Rattle.certify_facts.specs.declared.fact.Reason.TheVariants.{Start}
use Rattle.certify_facts.specs.Confirms.{AllHold, facts_of}
use Rattle.certify_facts.specs.Form.{IsFormed, IsOfModel}
use Rattle.certify_facts.specs.Reasons.{FollowsFrom, IsReturnedAlong, IsStart}
use Rattle.certify_making.specs.declared.notes.Key.{Key}
use Rattle.certify_making.specs.declared.notes.Notes.{Notes}
use Rattle.certify_making.specs.Adding.{HasFact}
use Rattle.certify_making.specs.Notes.{HasKey, HasNote}

-- the lines may stand in a certificate, and no fact stands there twice
pub record AreShown (judge : Judge) (g : Graph) (t : List Event) (lines : List FactLine) : Type 0 where
  pub once : AllPairs (λ x y. x ≢ y) (facts_of lines)
  pub hold : AllHold g t lines
  pub formed : All (IsFormed judge) lines

-- The facts at the first places had their turn: what follows from them is known, and they are noted.
pub record IsAhead (judge : Judge) (g : Graph) (t : List Event) (count : ℕ) (lines : List FactLine) (notes : Notes) : Type 0 where
  pub shown : AreShown judge g t lines
  pub begun : (y : Fact) → IsOfModel judge y → IsStart g y → HasFact lines y
  pub one : (p : ℕ) (x y : Fact) → p < count → slice_get (facts_of lines) p ≡ Some x → FollowsFrom g t x y → HasFact lines y
  pub both : (p q : ℕ) (x z y : Fact) → p < count → q < count → slice_get (facts_of lines) p ≡ Some x → slice_get (facts_of lines) q ≡ Some z → IsReturnedAlong g x z y → HasFact lines y
  pub noted : (p : ℕ) (x : Fact) (key : Key) → p < count → slice_get (facts_of lines) p ≡ Some x → HasKey g x key → HasNote notes key (p + 1)
  pub some : 0 < length lines

-- each fact that follows is known
pub record AreClosed (judge : Judge) (g : Graph) (t : List Event) (lines : List FactLine) : Type 0 where
  pub shown : AreShown judge g t lines
  pub begun : (y : Fact) → IsOfModel judge y → IsStart g y → HasFact lines y
  pub one : (x y : Fact) → HasFact lines x → FollowsFrom g t x y → HasFact lines y
  pub both : (x z y : Fact) → HasFact lines x → HasFact lines z → IsReturnedAlong g x z y → HasFact lines y
  pub some : 0 < length lines

-- the only line is that of the fact with which a run begins
pub record IsBegun (judge : Judge) (g : Graph) (lines : List FactLine) : Type 0 where
  pub line : FactLine
  pub is : lines ≡ line ∷ []
  pub reason : line.reason ≡ Start
  pub model : IsOfModel judge line.fact
  pub start : IsStart g line.fact
  pub only : (y : Fact) → IsOfModel judge y → IsStart g y → line.fact ≡ y

-- how many events the fact is about
abbrev pub events_of : Fact → ℕ
events_of (facts.Callgraph k v) = k
events_of (facts.At k i f v) = k
events_of (facts.Link i f j h s) = i

-- the later number is the greater of the earlier one and that of the events that the fact is about
abbrev pub IsDeeper : ℕ → Fact → ℕ → Type 0
IsDeeper before x after = ((after ≡ before) × (events_of x ≤ before)) ⊎ ((after ≡ events_of x) × (before ≤ after))

-- the number is the greatest one of events that a fact is about
pub record IsDeepest (lines : List FactLine) (n : ℕ) : Type 0 where
  pub least : (l : FactLine) → Contains lines l → events_of l.fact ≤ n
  pub reached : (n ≡ 0) ⊎ ((l : FactLine) × Contains lines l × (events_of l.fact ≡ n))

-- the verdict on a trace, where a run can go on through so many of its events and no more
abbrev pub verdict_at : List Event → ℕ → Verdict
verdict_at t n = if nat_eq n (length t) then Accepted n else Rejected (n + 1)
