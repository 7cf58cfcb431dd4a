-- For private contracts and proofs alone: an object as the code holds it.
use Rattle.std.specs.Prelude.{ℕ, ◌+◌, ◌*◌, ◌≤◌, length, slice_get}
use Rattle.c_tree.specs.declared.value.Pointer.{Pointer}
use Rattle.c_tree.specs.declared.value.Value.{Value}
use Rattle.c_values.specs.declared.held.Held.{Held}
use Rattle.c_values.specs.Answers.{Answer, and_then}
use Rattle.c_values.specs.Memory.{Object, element, cell_value, writable, set_cell}

-- the object that is held
abbrev pub held_object : Held → Object
held_object h = record { cells = h.cells.items; string = h.string }

-- the pointer's elements lie in the cells of the object
abbrev pub LiesIn : Held → Pointer → Type 0
LiesIn h q = (q.first + q.elements * q.width ≤ length h.cells.items) × (q.index ≤ q.elements)

-- what a cell of the element has
abbrev pub load_from : Object → Pointer → ℕ → Answer Value
load_from o q cell = and_then (element q) (λ first. cell_value (slice_get o.cells (first + cell)))

-- the object with a cell of the element changed
abbrev pub store_to : Object → Pointer → ℕ → Value → Answer Object
store_to o q cell v = and_then (element q) (λ first. and_then (writable o) (λ cells. set_cell cells (first + cell) v (slice_get cells (first + cell))))
