-- For private contracts and proofs alone: lines that are added, each unless its fact is known.
use Rattle.std.specs.Prelude.{◌≡◌, ◌⊎◌, ◌≤◌, Bool, true, false, List, [], ◌∷◌, ◌++◌, Contains, length}
use Rattle.certify_facts.specs.declared.fact.Fact.{Fact}
use Rattle.certify_facts.specs.declared.fact.FactLine.{FactLine}
use Rattle.certify_facts.specs.Confirms.{facts_of}
use Rattle.certify_making.specs.declared.error.CertifyError.{CertifyError}
use Rattle.certify_making.specs.declared.error.CertifyError.TheVariants.{OutOfMemory, TooLarge}
use Rattle.certify_making.specs.declared.facts.Facts.{Facts}
use Rattle.certify_making.specs.Made.{most}

-- the fact is that of a line
abbrev pub HasFact : List FactLine → Fact → Type 0
HasFact lines x = Contains (facts_of lines) x

-- the fact was added to those that are known, or was one of them
abbrev pub Remembers : Bool → Fact → List Fact → List Fact → Type 0
Remembers true x old new = (Contains old x → ⊥) × (new ≡ old ++ x ∷ [])
Remembers false x old new = Contains old x × (new ≡ old)

-- the facts that are known are those of the lines, and there are not too many
pub record IsKept (facts : Facts) : Type 0 where
  pub known : facts.known.keys ≡ facts_of facts.lines.items
  pub few : length facts.lines.items ≤ most

-- the line was added, where its fact wasn't known
abbrev pub AddsOne : FactLine → List FactLine → List FactLine → Type 0
AddsOne l old new = (HasFact old l.fact × (new ≡ old)) ⊎ ((HasFact old l.fact → ⊥) × (new ≡ old ++ l ∷ []))

-- why a line was not added: its fact isn't known, and there are as many as there may be
abbrev pub CannotAdd : FactLine → List FactLine → CertifyError → Type 0
CannotAdd l lines OutOfMemory = Unit {0}
CannotAdd l lines TooLarge = (HasFact lines l.fact → ⊥) × (most ≤ length lines)

-- The lines were added one after another.
pub data Added (lines : List FactLine) : List FactLine → List FactLine → Type 0 where
  none : Added lines [] lines
  more : {done mid new : List FactLine} (l : FactLine) → Added lines done mid → AddsOne l mid new → Added lines (done ++ l ∷ []) new

-- why not all were added: one of them cannot be added after some others
pub record IsOverfull (found lines : List FactLine) : Type 0 where
  pub done : List FactLine
  pub mid : List FactLine
  pub last : FactLine
  pub added : Added lines done mid
  pub some : (l : FactLine) → Contains done l → Contains found l
  pub one : Contains found last
  pub unknown : HasFact mid last.fact → ⊥
  pub full : most ≤ length mid

abbrev pub CannotAddEach : List FactLine → List FactLine → CertifyError → Type 0
CannotAddEach found lines OutOfMemory = Unit {0}
CannotAddEach found lines TooLarge = IsOverfull found lines
