-- For private contracts and proofs alone: the stops of a certificate that was refused, or not made.
use Rattle.std.specs.Prelude.{◌≡◌, ◌≢◌, ℕ, List, codes}
use Rattle.dm_base.specs.declared.event.Event.{Event}
use Rattle.flow_model.specs.Graph.{Graph}
use Rattle.flow_model.specs.Verdict.{IsVerdict}
use Rattle.certify_facts.specs.Confirms.{Confirms, which_of}
use Rattle.certify_facts.specs.declared.fact.Judge.{Judge}
use Rattle.certify_facts.specs.Told.{Told}
use Rattle.certify.specs.declared.error.ConfirmError.{ConfirmError}
use Rattle.certify.specs.declared.error.ConfirmError.TheVariants as claims
use Rattle.certify.specs.Refusals.{IsRefusal}
use Rattle.certify_making.specs.Made.{HasTooMany}
use Rattle.tool_frame.specs.declared.stop.Stop.{Stop}
use Rattle.tool_frame.specs.declared.stop.Stop.TheVariants as stops
use Rattle.tool_reading.specs.Confirm.{confirmed_text, confirm_refusal}

-- a record is refused with this line, for a reason of which this is so; or memory is wanted
abbrev pub IsRecordStop : Stop → Type 0 → List ℕ → Type 0
IsRecordStop stops.Usage Named line = ⊥
IsRecordStop (stops.Source own) Named line = ⊥
IsRecordStop (stops.Model own) Named line = ⊥
IsRecordStop (stops.Record own) Named line = Named × (own.items ≡ line)
IsRecordStop stops.Read Named line = ⊥
IsRecordStop stops.Write Named line = ⊥
IsRecordStop stops.OutOfMemory Named line = Unit {0}

-- why a certificate wasn't confirmed
abbrev pub StopsClaim : Stop → Graph → List Event → Told → Type 0
StopsClaim stops.Usage g t c = ⊥
StopsClaim (stops.Source own) g t c = ⊥
StopsClaim (stops.Model own) g t c = ⊥
StopsClaim (stops.Record own) g t c = (error : ConfirmError) × (error ≢ claims.OutOfMemory) × (own.items ≡ confirm_refusal error) × IsRefusal g t c error
StopsClaim stops.Read g t c = ⊥
StopsClaim stops.Write g t c = ⊥
StopsClaim stops.OutOfMemory g t c = Unit {0}

-- the certificate is confirmed, and the text says so
pub record IsShown (g : Graph) (t : List Event) (c : Told) (text : List ℕ) : Type 0 where
  pub confirms : Confirms g t c
  pub verdict : (bound : ℕ) → IsVerdict (which_of c.judge) g bound t c.verdict
  pub is : text ≡ confirmed_text c.judge c.verdict

-- why a certificate wasn't made
abbrev pub StopsMaking : Stop → Judge → Graph → List Event → Type 0
StopsMaking stops.Usage judge g t = ⊥
StopsMaking (stops.Source own) judge g t = ⊥
StopsMaking (stops.Model own) judge g t = ⊥
StopsMaking (stops.Record own) judge g t = (own.items ≡ codes "record refused Q3\n") × HasTooMany judge g t
StopsMaking stops.Read judge g t = ⊥
StopsMaking stops.Write judge g t = ⊥
StopsMaking stops.OutOfMemory judge g t = Unit {0}
