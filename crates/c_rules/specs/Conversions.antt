-- Conversions (6.3): of places to values, of integers, and as if by assignment.
use Rattle.std.specs.Prelude.{ℕ, Bool, false, ◌||◌, if◌then◌else◌, nat_le, nat_lt}
use Rattle.c_tree.specs.declared.value.IntType.{IntType}
use Rattle.c_tree.specs.declared.value.Value.TheVariants.{Null}
use Rattle.c_tree.specs.Tree.{CType, void, integer, pointer, array, struct, function, Expr, constant, load, decay, conversion}
use Rattle.c_tree.specs.Layout.{cells}
use Rattle.c_rules.specs.Checked.{Checked, fine, faulty, fault, demand, Met, met}
use Rattle.c_rules.specs.Codes.{C3, C13}
use Rattle.c_rules.specs.Limits.{most_parts}
use Rattle.c_rules.specs.Types.{same_integer, same_type, is_integer, is_scalar, parts}
use Rattle.c_rules.specs.Scopes.{Env, Struct, incomplete, unknown_struct, defined_struct, struct_of, layout_of}
use Rattle.c_rules.specs.TypedExpression.{Form, a_value, a_place, behind, not_constant, known, TypedExpression, typed_value, tree_of, is_null}
use Rattle.c_rules.specs.Constants.{constant_converted, constant_decayed}

-- what operators ask of a type: an integer, a pointer, or neither
pub data Kind : Type 0 where
  an_integer : IntType → Kind
  a_pointer : CType → Kind
  neither : Kind

abbrev pub kind_of : CType → Kind
kind_of (integer i) = an_integer i
kind_of (pointer t) = a_pointer t
kind_of t = neither

-- the limit on the parts of a type, which holds for the types of expressions too
abbrev pub few_parts : CType → Bool
few_parts t = nat_le (parts t) most_parts

-- a struct whose definition stands before; where that fails, this fails with it
abbrev pub is_defined : (at : ℕ) → Struct → Checked Met
is_defined at incomplete = fault C3 at
is_defined at (unknown_struct f fs) = faulty f fs
is_defined at (defined_struct ms) = fine met

-- the type of an object of known size (6.2.5 paragraph 1)
abbrev pub complete : Env → (at : ℕ) → CType → Checked Met
complete env at void = fault C3 at
complete env at (integer i) = fine met
complete env at (pointer t) = fine met
complete env at (array t n) = demand (nat_lt 0 n) C3 at met
complete env at (struct s) = is_defined at (struct_of env s)
complete env at (function t ts) = fault C3 at

-- the value of a scalar place (6.3.2.1 paragraph 2); what is no place is a value already
abbrev pub loaded : TypedExpression → Form → TypedExpression
loaded g (a_value e) = g
loaded g (a_place e) = typed_value g.ctype (load g.ctype (tree_of g)) not_constant
loaded g (behind p) = typed_value g.ctype (load g.ctype (tree_of g)) not_constant

-- What gives a value where a value is asked: a scalar place its value, an array a pointer to its first element, a function a
-- pointer to it (6.3.2.1). A struct gives none in this profile.
abbrev pub valued_as : Env → (at : ℕ) → TypedExpression → CType → Checked TypedExpression
valued_as env at g void = fine (loaded g g.form)
valued_as env at g (integer i) = fine (loaded g g.form)
valued_as env at g (pointer t) = fine (loaded g g.form)
valued_as env at g (array t n) =
    fine (typed_value (pointer t) (decay (pointer t) (tree_of g)) (constant_decayed (cells (layout_of env) t) g.constant))
valued_as env at g (struct s) = fault C3 at
valued_as env at g (function t ts) =
    demand (few_parts (pointer g.ctype)) C13 at (typed_value (pointer g.ctype) (decay (pointer g.ctype) (tree_of g)) g.constant)

abbrev pub valued : Env → (at : ℕ) → TypedExpression → Checked TypedExpression
valued env at g = valued_as env at g g.ctype

-- an integer converted to an integer type (6.3.1.3), also where it has that type
abbrev pub cast_to : IntType → TypedExpression → TypedExpression
cast_to i g = typed_value (integer i) (conversion (integer i) i (tree_of g)) (constant_converted i g.constant)

abbrev pub has_integer : IntType → CType → Bool
has_integer i (integer j) = same_integer i j
has_integer i t = false

-- an integer converted to an integer type, where it has another one
abbrev pub converted_to : IntType → TypedExpression → TypedExpression
converted_to i g = if has_integer i g.ctype then g else cast_to i g

-- a null pointer of a type (6.3.2.3 paragraph 3)
abbrev pub null_of : CType → TypedExpression
null_of t = typed_value t (constant t Null) (known Null)

-- A value may be assigned to an object of a type (6.5.16.1): an integer to an integer; a pointer to one of its type; a null pointer
-- constant to a pointer.
abbrev pub fits_kind : Kind → CType → TypedExpression → Bool
fits_kind (an_integer i) t g = is_integer g.ctype
fits_kind (a_pointer u) t g = is_null g || same_type t g.ctype
fits_kind neither t g = false

abbrev pub fits : CType → TypedExpression → Bool
fits t g = fits_kind (kind_of t) t g

-- such a value in the type of the object
abbrev pub assigned_as : Kind → CType → TypedExpression → TypedExpression
assigned_as (an_integer i) t g = converted_to i g
assigned_as (a_pointer u) t g = if is_null g then null_of t else g
assigned_as neither t g = g

abbrev pub assigned : CType → TypedExpression → TypedExpression
assigned t g = assigned_as (kind_of t) t g

-- the conversion as if by assignment, and its demand
abbrev pub as_if_assigned : (at : ℕ) → CType → TypedExpression → Checked TypedExpression
as_if_assigned at t g = demand (fits t g) C3 at (assigned t g)

-- a condition is a scalar (6.8.4.1 paragraph 1, 6.8.5 paragraph 2)
abbrev pub condition : (at : ℕ) → TypedExpression → Checked Expr
condition at g = demand (is_scalar g.ctype) C3 at (tree_of g)
