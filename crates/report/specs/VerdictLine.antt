-- The line of a verdict.
use Rattle.std.specs.Prelude.{◌≡◌, ℕ, ◌-◌, ◌≤◌, List, [], ◌∷◌, ◌++◌, Option, None, Some, slice_get, codes, decimal}
use Rattle.dm_base.specs.declared.event.Event.{Event}
use Rattle.dm_base.specs.declared.verdict.Verdict.{Verdict}
use Rattle.dm_base.specs.declared.verdict.Verdict.TheVariants.{Accepted, Rejected, Bound}
use Rattle.flow_model.specs.declared.which.Which.{Which}
use Rattle.flow_model.specs.declared.which.Which.TheVariants.{Callgraph, Stack, Dyck}
use Rattle.trace_file.specs.EventText.{event_text}

-- the word that asks for a monitor, with which its line begins
abbrev pub word_of : Which → List ℕ
word_of Callgraph = codes "callgraph"
word_of Stack = codes "stack"
word_of Dyck = codes "dyck"

-- what a line says of an event, its number and its text
abbrev pub place_line : Which → List ℕ → ℕ → Event → List ℕ
place_line which said k event = word_of which ++ said ++ decimal k ++ codes " " ++ event_text event ++ codes "\n"

-- `NAME accepted N`, or `NAME rejected N EVENT` or `NAME bound N EVENT` with the event at which the trace was refused, and a line feed
abbrev pub verdict_text : Which → Verdict → Option Event → List ℕ
verdict_text which (Accepted n) event = word_of which ++ codes " accepted " ++ decimal n ++ codes "\n"
verdict_text which (Rejected k) (Some event) = place_line which (codes " rejected ") k event
verdict_text which (Rejected k) None = []
verdict_text which (Bound k) (Some event) = place_line which (codes " bound ") k event
verdict_text which (Bound k) None = []

-- an event is given exactly where the verdict isn't Accepted
abbrev pub IsGiven : Verdict → Option Event → Type 0
IsGiven (Accepted n) event = event ≡ None
IsGiven (Rejected k) event = (e : Event) × (event ≡ Some e)
IsGiven (Bound k) event = (e : Event) × (event ≡ Some e)

-- the event at which the trace was refused; events count from 1
abbrev pub event_at : List Event → Verdict → Option Event
event_at t (Accepted n) = None
event_at t (Rejected k) = slice_get t (k - 1)
event_at t (Bound k) = slice_get t (k - 1)
