-- Memory: the objects that there are, by their names (C99 3.14, 6.2.4). Each scalar is one cell.
use Rattle.std.specs.Prelude.{◌≡◌, ◌≤◌, length, ℕ, ◌+◌, ◌*◌, nat_lt, nat_eq, if◌then◌else◌, Bool, true, false, List, replicate, Option, Some, None, slice_get, slice_set}
use Rattle.c_tree.specs.declared.value.ObjectName.{ObjectName}
use Rattle.c_tree.specs.declared.value.Pointer.{Pointer}
use Rattle.c_tree.specs.declared.value.Value.{Value}
use Rattle.c_tree.specs.declared.value.Value.TheVariants.{Indeterminate, Int, Uint, Char, Uchar, Null, Func, At}
use Rattle.c_values.specs.Answers.{Answer, gives, undefined, and_then, U4, U6, U8, U10, U13}

-- whether two names are the same
abbrev pub same_name : ObjectName → ObjectName → Bool
same_name a b = if nat_eq a.activation b.activation then nat_eq a.variable b.variable else false

-- the values of an object's cells, and whether it is a string literal
pub record Object : Type 0 where
  pub cells : List Value
  pub string : Bool

-- the object that has a name, where there is one
abbrev pub Objects : Type 0
Objects = ObjectName → Option Object

abbrev pub no_objects : Objects
no_objects x = None

-- the name has this object, or none, from now on; the others are as before
abbrev pub changed : Objects → ObjectName → Option Object → Objects
changed m x o y = if same_name x y then o else m y

-- the name has so many indeterminate cells from now on
abbrev pub declared : Objects → ObjectName → ℕ → Objects
declared m x n = changed m x (Some (record { cells = replicate n Indeterminate; string = false }))

-- an object as that of a string literal
abbrev pub marked : Option Object → Option Object
marked None = None
marked (Some o) = Some (record { cells = o.cells; string = true })

-- the object of the name is that of a string literal from now on (6.4.5 paragraph 6)
abbrev pub sealed : Objects → ObjectName → Objects
sealed m x = changed m x (marked (m x))

-- the object has ended
abbrev pub ended : Objects → ObjectName → Objects
ended m x = changed m x None

-- the object; a name without one is that of an object that has ended
abbrev pub there : Option Object → Answer Object
there None = undefined U6
there (Some o) = gives o

abbrev pub object : Objects → ObjectName → Answer Object
object m x = there (m x)

-- the first cell of the element that is pointed to
abbrev pub element : Pointer → Answer ℕ
element q = if nat_lt q.index q.elements then gives (q.first + q.index * q.width) else undefined U8

-- the value of a cell
abbrev pub cell_value : Option Value → Answer Value
cell_value None = undefined U13
cell_value (Some Indeterminate) = undefined U4
cell_value (Some (Int n)) = gives (Int n)
cell_value (Some (Uint n)) = gives (Uint n)
cell_value (Some (Char n)) = gives (Char n)
cell_value (Some (Uchar n)) = gives (Uchar n)
cell_value (Some Null) = gives Null
cell_value (Some (Func f)) = gives (Func f)
cell_value (Some (At q)) = gives (At q)

-- the value of a cell of the element that is pointed to
abbrev pub load : Objects → Pointer → ℕ → Answer Value
load m q cell =
    and_then (object m q.name) (λ o. and_then (element q) (λ first. cell_value (slice_get o.cells (first + cell))))

-- the cells of an object that may be stored to
abbrev pub writable : Object → Answer (List Value)
writable o = if o.string then undefined U10 else gives o.cells

-- an object with one cell changed
abbrev pub set_cell : List Value → ℕ → Value → Option Value → Answer Object
set_cell cells i v None = undefined U13
set_cell cells i v (Some old) = gives (record { cells = slice_set cells i v; string = false })

-- a cell of the element that is pointed to has the value from now on
abbrev pub store : Objects → Pointer → ℕ → Value → Answer Objects
store m q cell v =
    and_then (object m q.name) (λ o. and_then (element q) (λ first. and_then (writable o) (λ cells.
    and_then (set_cell cells (first + cell) v (slice_get cells (first + cell))) (λ new. gives (changed m q.name (Some new))))))

-- where the object is there, the elements of the array lie in its cells, and the pointer leads to one of them or one past the last
abbrev pub IsInside : Objects → Pointer → Type 0
IsInside m q = (o : Object) → m q.name ≡ Some o → (q.first + q.elements * q.width ≤ length o.cells) × (q.index ≤ q.elements)
