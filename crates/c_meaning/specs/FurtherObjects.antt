-- A second memory that has further objects, to which no pointer leads.
use Rattle.std.specs.Prelude.{◌≡◌, ℕ, ◌≤◌, None}
use Rattle.c_tree.specs.declared.value.ObjectName.{ObjectName}
use Rattle.c_tree.specs.Kinds.{Objects}
use Rattle.c_meaning.specs.Memory.{Objects as Memory}
use Rattle.c_meaning.specs.Results.{with_memory, Result, Go, Stop}

-- A name of an activation up to this one of which a store typing doesn't tell: no value of a typed state leads to it.
abbrev pub IsHidden : Objects → ℕ → ObjectName → Type 0
IsHidden o last x = (x.activation ≤ last) × (o x ≡ None)

-- the second memory has the objects of the first, and further ones with hidden names
abbrev pub IsBeside : Objects → ℕ → Memory → Memory → Type 0
IsBeside o last m more = (x : ObjectName) → (IsHidden o last x → ⊥) → more x ≡ m x

-- objects with hidden names stay as they are
abbrev pub Stay : Objects → ℕ → Memory → Memory → Type 0
Stay o last before after = (x : ObjectName) → IsHidden o last x → after x ≡ before x

-- The second part, whose memory was `more`, does what the first does: it gives the same after the same events, beside further
-- objects that stayed as they were; or the run stops alike after the same events.
abbrev pub DoesAlike : {A : Type 0} → Objects → ℕ → (more : Memory) → Result A → Result A → Type 0
DoesAlike o last more (Go a st w) q =
    (l : Memory) × (q ≡ Go a (with_memory st l) w) × IsBeside o last st.memory l × Stay o last more l
DoesAlike o last more (Stop e w) q = q ≡ Stop e w
