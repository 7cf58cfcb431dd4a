-- What a change of the table does to the objects that there are.
use Rattle.std.proofs.Common.{◌≡◌, ℕ, ◌+◌, Bool, true, false, cond, if◌then◌else◌, ◌&&◌, nat_eq, List, Option, Some, slice_get, ap, sym, ◌∙◌, refl}
use Rattle.std.specs.Prelude.{Result, Ok, Err, OnErr}
use Rattle.std.specs.HashMap.{HashMap, get}
use Rattle.c_tree.specs.declared.value.ObjectName.{ObjectName}
use Rattle.c_tree.specs.declared.value.Pointer.{Pointer}
use Rattle.c_tree.specs.declared.value.Value.{Value}
use Rattle.c_values.specs.declared.held.Held.{Held}
use Rattle.c_values.specs.Answers.{Answer, gives, undefined, and_then}
use Rattle.c_values.specs.Memory.{same_name, Object, Objects, changed, there, element, writable, set_cell, store}
use Rattle.c_values.specs.Seen.{same_key, as_object}
use Rattle.c_values.specs.Held.{store_to}
use Rattle.c_values.specs.Told.{left}
use Rattle.c_values.proofs.StoreLemmas.{same_is}

-- the key of a name
abbrev pub key_of : ObjectName → ℕ × ℕ
key_of x = (x.activation, x.variable)

-- a table, as the objects that there are
abbrev pub seen_in : {S : Type 0} → HashMap (ℕ × ℕ) Held S → Objects
seen_in m x = as_object (get same_key m (key_of x))

picked : (a b : Bool) (w o : Option Held) → as_object (cond (a && b) w o) ≡ (if (if a then b else false) then as_object w else as_object o)
picked true true w o = refl
picked true false w o = refl
picked false b w o = refl

-- the table has this under the name's key, and the others as before
pub updated : {S : Type 0} (m n : HashMap (ℕ × ℕ) Held S) (x : ObjectName) (k : ℕ × ℕ) (w : Option Held) → k ≡ key_of x → ((q : ℕ × ℕ) → get same_key n q ≡ cond (same_key k q) w (get same_key m q)) → seen_in n ≡ changed (seen_in m) x (as_object w)
updated m n x k w is h = λ i y. step y i
  where
    step : (y : ObjectName) → seen_in n y ≡ changed (seen_in m) x (as_object w) y
    step y =
        ap as_object (h (key_of y))
        ∙ (ap (λ j. as_object (cond (same_key j (key_of y)) w (get same_key m (key_of y)))) is
        ∙ picked (nat_eq x.activation y.activation) (nat_eq x.variable y.variable) w (get same_key m (key_of y)))

-- what is there already changes nothing
pub changed_same : (m : Objects) (x : ObjectName) (o : Option Object) → m x ≡ o → changed m x o ≡ m
changed_same m x o h = λ i y. at y (same_name x y) refl i
  where
    at : (y : ObjectName) (b : Bool) → same_name x y ≡ b → (if same_name x y then o else m y) ≡ m y
    at y true e = ap (λ c. if c then o else m y) e ∙ (sym h ∙ ap m (same_is x y e))
    at y false e = ap (λ c. if c then o else m y) e

-- what a store gives, from what it makes of the object
after : (m : Objects) (q : Pointer) (cell : ℕ) (v : Value) (o : Object) (e : Answer ℕ) (w : Answer (List Value)) →
    and_then e (λ first. and_then w (λ cells. and_then (set_cell cells (first + cell) v (slice_get cells (first + cell))) (λ new. gives (changed m q.name (Some new)))))
    ≡ and_then (and_then e (λ first. and_then w (λ cells. set_cell cells (first + cell) v (slice_get cells (first + cell))))) (λ new. gives (changed m q.name (Some new)))
after m q cell v o (gives first) (gives cells) = refl
after m q cell v o (gives first) (undefined kind) = refl
after m q cell v o (undefined kind) w = refl

store_is : (m : Objects) (q : Pointer) (cell : ℕ) (v : Value) (o : Object) → m q.name ≡ Some o → store m q cell v ≡ and_then (store_to o q cell v) (λ new. gives (changed m q.name (Some new)))
store_is m q cell v o h =
    ap (λ t. and_then (there t) (λ p. and_then (element q) (λ first. and_then (writable p) (λ cells.
    and_then (set_cell cells (first + cell) v (slice_get cells (first + cell))) (λ new. gives (changed m q.name (Some new))))))) h
    ∙ after m q cell v o (element q) (writable o)

left_of : {T : Type 0} (r : Result T ℕ) (m new : Objects) (x : ObjectName) (o : Object) → new ≡ changed m x (Some o) → left new r ≡ and_then (left o r) (λ made. gives (changed m x (Some made)))
left_of (Ok t) m new x o h = ap gives h
left_of (Err kind) m new x o h = refl

pub stores : {T : Type 0} (r : Result T ℕ) (m new : Objects) (q : Pointer) (cell : ℕ) (v : Value) (old made : Object) → m q.name ≡ Some old → new ≡ changed m q.name (Some made) → left made r ≡ store_to old q cell v → left new r ≡ store m q cell v
stores r m new q cell v old made h is told =
    left_of r m new q.name made is ∙ (ap (λ a. and_then a (λ o. gives (changed m q.name (Some o)))) told ∙ sym (store_is m q cell v old h))

pub refuses : {T : Type 0} (r : Result T ℕ) (m new : Objects) (x : ObjectName) (old made : Object) → m x ≡ Some old → new ≡ changed m x (Some made) → OnErr r (made ≡ old) → OnErr r (new ≡ m)
refuses (Ok t) m new x old made h is same = same
refuses (Err kind) m new x old made h is same = is ∙ (ap (λ o. changed m x (Some o)) same ∙ changed_same m x (Some old) h)
