-- Why a certificate isn't confirmed.
use Rattle.std.specs.Prelude.{◌≡◌, ℕ, ◌+◌, ◌<◌, List, length}
use Rattle.dm_base.specs.declared.event.Event.{Event}
use Rattle.flow_model.specs.Graph.{Graph}
use Rattle.certify_facts.specs.declared.fact.FactLine.{FactLine}
use Rattle.certify_facts.specs.Confirms.{HoldsAt, AllHold, IsClaim, facts_of}
use Rattle.certify_facts.specs.Told.{Told}
use Rattle.certify.specs.declared.error.ConfirmError.{ConfirmError}
use Rattle.certify.specs.declared.error.ConfirmError.TheVariants.{OutOfMemory, Line, Claim}

-- the line after the first n ones is the first whose reason doesn't hold
pub record FailsFirst (g : Graph) (t : List Event) (lines : List FactLine) (n : ℕ) : Type 0 where
  pub within : n < length lines
  pub fails : HoldsAt g t lines n → ⊥
  pub before : (j : ℕ) → j < n → HoldsAt g t lines j

-- what an error says; in the text of a certificate the first fact stands on line 4
abbrev pub IsRefusal : Graph → List Event → Told → ConfirmError → Type 0
IsRefusal g t c OutOfMemory = Unit {0}
IsRefusal g t c (Line n) = (place : ℕ) × (n ≡ place + 4) × FailsFirst g t c.lines place
IsRefusal g t c Claim = AllHold g t c.lines × (IsClaim c.judge g t c.verdict (facts_of c.lines) → ⊥)
