-- What a store tells of the pointer.
use Rattle.std.proofs.Common.{◌≡◌, ℕ, ◌+◌, ◌*◌, ◌<◌, Bool, true, false, nat_lt, if◌then◌else◌, Some, slice_get, ap, ◌∙◌, refl}
use Rattle.std.proofs.lemmas.Bool.{ltb-true}
use Rattle.c_tree.specs.declared.value.Pointer.{Pointer}
use Rattle.c_tree.specs.declared.value.Value.{Value}
use Rattle.c_values.specs.Answers.{Answer, gives, undefined, and_then, U8}
use Rattle.c_values.specs.Memory.{Objects, Object, object, writable, set_cell, changed, store}

refused : (x : Answer Object) (k : ℕ) (f : Object → ℕ → Answer Objects) (new : Objects) → gives new ≡ and_then x (λ o. and_then (undefined U8) (f o)) → ⊥
refused (gives o) k f new h = cc
refused (undefined kind) k f new h = cc

-- what a store does at the first cell of the element
abbrev stored_at : Objects → Pointer → Value → Object → ℕ → Answer Objects
stored_at m q v o first = and_then (writable o) (λ cells. and_then (set_cell cells (first + 0) v (slice_get cells (first + 0))) (λ made. gives (changed m q.name (Some made))))

-- it points to an element
pub stored_inside : (m new : Objects) (q : Pointer) (v : Value) → gives new ≡ store m q 0 v → q.index < q.elements
stored_inside m new q v h = at (nat_lt q.index q.elements) refl
  where
    at : (b : Bool) → nat_lt q.index q.elements ≡ b → q.index < q.elements
    at true e = ltb-true q.index q.elements e
    at false e = absurd (refused (object m q.name) 0 (stored_at m q v) new (h ∙ ap (λ b. and_then (object m q.name) (λ o. and_then (if b then gives (q.first + q.index * q.width) else undefined U8) (stored_at m q v o))) e))
