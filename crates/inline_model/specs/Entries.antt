-- The table of all openings of a model.
use Rattle.std.specs.Prelude.{◌≡◌, ◌↔◌, ◌<◌, ◌⊎◌, ℕ, List, Some, Contains, slice_get}
use Rattle.std.specs.declared.cmp.Ordering.{Ordering}
use Rattle.std.specs.Ordering.{nat_cmp, ordering_then}
use Rattle.flow_model.specs.Call.{Call}
use Rattle.flow_model.specs.Graph.{Graph}
use Rattle.flow_model.specs.Order.{StrictlyRise}
use Rattle.inline_model.specs.Within.{Within}
use Rattle.inline_model.specs.declared.table.Entry.{Entry}

-- by the function, then by the place, then by the candidate
abbrev pub entry_order : Entry → Entry → Ordering
entry_order d e = ordering_then (nat_cmp d.function e.function) (ordering_then (nat_cmp d.place e.place) (nat_cmp d.candidate e.candidate))

-- the call edge at the place leaves a node within the function, and has the candidate
pub record IsEntry (g : Graph) (e : Entry) : Type 0 where
  pub call : Call
  pub stands : slice_get g.calls e.place ≡ Some call
  pub within : Within g e.function call.from
  pub candidate : Contains call.candidates e.candidate

-- the entries are all of the model, in increasing order
pub record AreEntries (g : Graph) (entries : List Entry) : Type 0 where
  pub all : (e : Entry) → Contains entries e ↔ IsEntry g e
  pub rise : StrictlyRise entry_order entries

-- the list has the entries of the first k call edges
abbrev pub HasEntries : Graph → ℕ → List Entry → Type 0
HasEntries g k entries = (e : Entry) → Contains entries e ↔ ((e.place < k) × IsEntry g e)

-- the list has grown by the entries of the call edge at the place
abbrev pub AddsCall : Graph → ℕ → Call → List Entry → List Entry → Type 0
AddsCall g place call old new = (e : Entry) → Contains new e ↔ (Contains old e ⊎ ((e.place ≡ place) × Within g e.function call.from × Contains call.candidates e.candidate))
