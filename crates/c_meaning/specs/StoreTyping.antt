-- Typed memory. A store typing tells the types of the cells of each object that was or is there, by its name: so it only grows, and it stays when an object ends or a block is entered again (C99 6.2.4).
use Rattle.std.specs.Prelude.{◌≡◌, ℕ, ◌<◌, ◌≤◌, Bool, true, false, List, length, Some, None, slice_get}
use Rattle.std.specs.List.{AllZip}
use Rattle.c_tree.specs.declared.value.ObjectName.{ObjectName}
use Rattle.c_tree.specs.declared.value.Pointer.{Pointer}
use Rattle.c_tree.specs.declared.value.Value.{Value}
use Rattle.c_tree.specs.declared.value.Value.TheVariants.{Indeterminate, Int, Uint, Char, Uchar, Null, Func, At}
use Rattle.c_tree.specs.Tree.{CType, function, CTypes, pointer, Static, Program}
use Rattle.c_tree.specs.Layout.{Structs, flat, cells}
use Rattle.c_tree.specs.Functions.{value_type}
use Rattle.c_tree.specs.Operands.{IsObject}
use Rattle.c_tree.specs.Kinds.{Objects, Lies, IsPointer, IsConstant}
use Rattle.c_meaning.specs.Memory.{Object}
use Rattle.c_meaning.specs.Memory.{Objects as Memory}
use Rattle.c_meaning.specs.CallGraph.{is_taken}
use Rattle.c_meaning.specs.Meaning.{Frame, static_name, name_in}
use Rattle.c_meaning.specs.Results.{State}

-- a value of the type: an integer in the type's range; a null pointer; an address-taken function of the type that is pointed to; a pointer to elements of that type, which lie in an object, or one past the last
abbrev pub HasKind : Program → Objects → CType → Value → Type 0
HasKind p o t Indeterminate = ⊥
HasKind p o t (Int z) = IsConstant t (Int z)
HasKind p o t (Uint n) = IsConstant t (Uint n)
HasKind p o t (Char z) = IsConstant t (Char z)
HasKind p o t (Uchar n) = IsConstant t (Uchar n)
HasKind p o t Null = IsConstant t Null
HasKind p o t (Func f) = (u : CType) × (t ≡ pointer u) × (value_type p f ≡ Some u) × (is_taken p f ≡ true)
HasKind p o t (At q) = (u : CType) × (t ≡ pointer u) × IsPointer p.structs o u q

-- a cell has a value of its type, or is indeterminate
abbrev pub IsCell : Program → Objects → CType → Value → Type 0
IsCell p o t Indeterminate = Unit {0}
IsCell p o t (Int z) = HasKind p o t (Int z)
IsCell p o t (Uint n) = HasKind p o t (Uint n)
IsCell p o t (Char z) = HasKind p o t (Char z)
IsCell p o t (Uchar n) = HasKind p o t (Uchar n)
IsCell p o t Null = HasKind p o t Null
IsCell p o t (Func f) = HasKind p o t (Func f)
IsCell p o t (At q) = HasKind p o t (At q)

-- a value of the type; where it is not owed, there may be none
abbrev pub IsGiven : Program → Objects → Bool → CType → Value → Type 0
IsGiven p o true t v = HasKind p o t v
IsGiven p o false t v = IsCell p o t v

-- a place of the type as a pointer to the one element of an array of one, which lies in its object
pub record IsPlaceAt (structs : Structs) (o : Objects) (t : CType) (q : Pointer) : Type 0 where
  pub object : IsObject structs t
  pub all : List CType
  pub known : o q.name ≡ Some all
  pub wide : q.width ≡ cells structs t
  pub alone : q.elements ≡ 1
  pub first : q.index ≡ 0
  pub lies : Lies all q.first (flat structs t)

-- an object of the type, or an address-taken function of the type
abbrev pub IsPlaced : Program → Objects → CType → Value → Type 0
IsPlaced p o t Indeterminate = ⊥
IsPlaced p o t (Int z) = ⊥
IsPlaced p o t (Uint n) = ⊥
IsPlaced p o t (Char z) = ⊥
IsPlaced p o t (Uchar n) = ⊥
IsPlaced p o t Null = ⊥
IsPlaced p o t (Func f) =
    (r : CType) × (ts : CTypes) × (t ≡ function r ts) × (value_type p f ≡ Some t) × (is_taken p f ≡ true)
IsPlaced p o t (At q) = IsPlaceAt p.structs o t q

-- each object that is there has cells of the types that are told
abbrev pub IsTypedMemory : Program → Objects → Memory → Type 0
IsTypedMemory p o m =
    (x : ObjectName) (ob : Object) → m x ≡ Some ob → (all : List CType) × (o x ≡ Some all) × AllZip (IsCell p o) all ob.cells

-- memory is typed, after so many entries of functions: objects have at most 65,536 cells, and nothing is told of the activations to come
pub record IsTypedAfter (p : Program) (o : Objects) (m : Memory) (entries : ℕ) : Type 0 where
  pub memory : IsTypedMemory p o m
  pub few : (x : ObjectName) (all : List CType) → o x ≡ Some all → length all ≤ 65536
  pub later : (x : ObjectName) → entries < x.activation → o x ≡ None

abbrev pub IsTypedState : Program → Objects → State → Type 0
IsTypedState p o st = IsTypedAfter p o st.memory st.entries

-- at least as many objects are told of, and those have the same types
abbrev pub Grows : Objects → Objects → Type 0
Grows o u = (x : ObjectName) (all : List CType) → o x ≡ Some all → u x ≡ Some all

-- of the activations up to this one the second tells as the first does
abbrev pub TellsAlike : ℕ → Objects → Objects → Type 0
TellsAlike last o u = (x : ObjectName) → x.activation ≤ last → u x ≡ o x

-- the static objects and strings are told of by their types
abbrev pub TellsOfStatics : Program → Objects → Type 0
TellsOfStatics p o = (n : ℕ) (s : Static) → slice_get p.statics n ≡ Some s → o (static_name n) ≡ Some (flat p.structs s.ctype)

-- those and the variables of the activation that runs are told of by their types
pub record IsTypedFrame (p : Program) (o : Objects) (fr : Frame) : Type 0 where
  pub statics : TellsOfStatics p o
  pub objects : (x : ℕ) (t : CType) → slice_get fr.types x ≡ Some t → IsObject p.structs t
  pub variables : (x : ℕ) (t : CType) → slice_get fr.types x ≡ Some t → o (name_in fr false x) ≡ Some (flat p.structs t)
