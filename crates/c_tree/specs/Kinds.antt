-- Values of a type.
use Rattle.std.specs.Prelude.{◌≡◌, ℕ, zero, suc, ◌+◌, ◌≤◌, ◌<◌, List, Option, Some, None, slice_get, FitsSigned}
use Rattle.std.specs.Int.{w8, w32}
use Rattle.c_tree.specs.declared.value.IntType.TheVariants as i
use Rattle.c_tree.specs.declared.value.ObjectName.{ObjectName}
use Rattle.c_tree.specs.declared.value.Pointer.{Pointer}
use Rattle.c_tree.specs.declared.value.Value.{Value}
use Rattle.c_tree.specs.declared.value.Value.TheVariants.{Indeterminate, Int, Uint, Char, Uchar, Null, Func, At}
use Rattle.c_tree.specs.Tree.{CType, integer, pointer, Static, Program}
use Rattle.c_tree.specs.Layout.{Structs, repeat, flat, cells}
use Rattle.c_tree.specs.Functions.{value_type}
use Rattle.c_tree.specs.Operands.{IsObject}

-- the types of the cells of each object that is told of
abbrev pub Objects : Type 0
Objects = ObjectName → Option (List CType)

-- among the cells there are these from a place on
abbrev pub Lies : List CType → ℕ → List CType → Type 0
Lies all first part = (k : ℕ) (t : CType) → slice_get part k ≡ Some t → slice_get all (first + k) ≡ Some t

-- a pointer to elements of this type, which lie in an object that is told of; it is one past the last at most
pub record IsPointer (structs : Structs) (objects : Objects) (t : CType) (q : Pointer) : Type 0 where
  pub object : IsObject structs t
  pub all : List CType
  pub known : objects q.name ≡ Some all
  pub within : q.index ≤ q.elements
  pub wide : q.width ≡ cells structs t
  pub lies : Lies all q.first (repeat q.elements (flat structs t))

-- an integer of its type and in its range, or a null pointer
abbrev pub IsConstant : CType → Value → Type 0
IsConstant t Indeterminate = ⊥
IsConstant t (Int z) = (t ≡ integer i.Int) × FitsSigned w32 z
IsConstant t (Uint n) = (t ≡ integer i.Uint) × (n < 4294967296)
IsConstant t (Char z) = (t ≡ integer i.Char) × FitsSigned w8 z
IsConstant t (Uchar n) = (t ≡ integer i.Uchar) × (n < 256)
IsConstant t Null = (u : CType) × (t ≡ pointer u)
IsConstant t (Func f) = ⊥
IsConstant t (At q) = ⊥

-- a value has a scalar type; a function value is a function of the type that is pointed to
abbrev pub HasType : Program → Objects → CType → Value → Type 0
HasType p objects t Indeterminate = ⊥
HasType p objects t (Int z) = IsConstant t (Int z)
HasType p objects t (Uint n) = IsConstant t (Uint n)
HasType p objects t (Char z) = IsConstant t (Char z)
HasType p objects t (Uchar n) = IsConstant t (Uchar n)
HasType p objects t Null = IsConstant t Null
HasType p objects t (Func f) = (u : CType) × (t ≡ pointer u) × (value_type p f ≡ Some u)
HasType p objects t (At q) = (u : CType) × (t ≡ pointer u) × IsPointer p.structs objects u q

-- the types of the cells of a static object
abbrev pub cells_where : Structs → Option Static → Option (List CType)
cells_where structs None = None
cells_where structs (Some s) = Some (flat structs s.ctype)

abbrev pub if_static : ℕ → Option (List CType) → Option (List CType)
if_static zero o = o
if_static (suc n) o = None

-- the static objects and strings, which have activation 0
abbrev pub static_objects : Program → Objects
static_objects p x = if_static x.activation (cells_where p.structs (slice_get p.statics x.variable))
