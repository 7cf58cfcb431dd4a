-- Laws on memory (C99 6.2.4 paragraph 2: an object keeps its last-stored value while it lasts).
use Rattle.std.specs.Prelude.{◌≡◌, ◌≢◌, ℕ, Some}
use Rattle.c_tree.specs.declared.value.ObjectName.{ObjectName}
use Rattle.c_tree.specs.declared.value.Pointer.{Pointer}
use Rattle.c_tree.specs.declared.value.Value.{Value}
use Rattle.c_values.specs.Answers.{gives, undefined, U6}
use Rattle.c_values.specs.Memory.{Objects, cell_value, load, store, ended}

-- what was stored is loaded, unless it is indeterminate
abbrev pub StoredIsLoaded : Type 0
StoredIsLoaded =
    (m new : Objects) (q : Pointer) (cell : ℕ) (v : Value) → store m q cell v ≡ gives new → load new q cell ≡ cell_value (Some v)

-- a store leaves the other objects as they are
abbrev pub OthersAreKept : Type 0
OthersAreKept =
    (m new : Objects) (q : Pointer) (cell : ℕ) (v : Value) → store m q cell v ≡ gives new → (x : ObjectName) → x ≢ q.name → new x ≡ m x

-- what has ended can neither be loaded nor stored to
abbrev pub EndedIsUndefined : Type 0
EndedIsUndefined =
    (m : Objects) (q : Pointer) (cell : ℕ) (v : Value) → (load (ended m q.name) q cell ≡ undefined U6) × (store (ended m q.name) q cell v ≡ undefined U6)
