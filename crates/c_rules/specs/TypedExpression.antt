-- What an expression gives.
use Rattle.std.specs.Prelude.{ℤ, pos, negsuc, Bool, true, false, not, ◌&&◌, nat_eq}
use Rattle.c_tree.specs.declared.value.Value.{Value}
use Rattle.c_tree.specs.declared.value.Value.TheVariants.{Int, Uint, Char, Uchar, Null}
use Rattle.c_tree.specs.Tree.{CType, Expr, dereference}
use Rattle.c_rules.specs.Types.{is_integer, is_function}

-- Whether it gives a value, or designates an object or a function (6.3.2.1). What a pointer leads to is kept as the pointer, so
-- that & gives the pointer back (6.5.3.2 paragraph 3).
pub data Form : Type 0 where
  a_value a_place behind : Expr → Form

-- Whether it is constant by its form (6.6), and then its value, where that is defined. The constant of a place is the address
-- that leads to it.
pub data Constant : Type 0 where
  not_constant : Constant
  undefined : Constant
  known : Value → Constant

-- the type (that of the object or function where it designates one), the form with the typed tree, and the constant
pub record TypedExpression : Type 0 where
  pub ctype : CType
  pub form : Form
  pub constant : Constant

-- a value of a type
abbrev pub typed_value : CType → Expr → Constant → TypedExpression
typed_value t e c = record { ctype = t; form = a_value e; constant = c }

-- the typed tree
abbrev pub tree_of_form : CType → Form → Expr
tree_of_form t (a_value e) = e
tree_of_form t (a_place e) = e
tree_of_form t (behind p) = dereference t p

abbrev pub tree_of : TypedExpression → Expr
tree_of g = tree_of_form g.ctype g.form

abbrev pub is_value : Form → Bool
is_value (a_value e) = true
is_value (a_place e) = false
is_value (behind p) = false

-- it designates an object (6.3.2.1 paragraph 1)
abbrev pub is_place : TypedExpression → Bool
is_place g = not (is_value g.form) && not (is_function g.ctype)

abbrev pub is_zero_number : ℤ → Bool
is_zero_number (pos n) = nat_eq n 0
is_zero_number (negsuc n) = false

-- the value is zero, of any integer type, or the null pointer
abbrev pub is_zero : Value → Bool
is_zero (Int z) = is_zero_number z
is_zero (Uint n) = nat_eq n 0
is_zero (Char z) = is_zero_number z
is_zero (Uchar n) = nat_eq n 0
is_zero Null = true
is_zero v = false

abbrev pub is_known_zero : Constant → Bool
is_known_zero not_constant = false
is_known_zero undefined = false
is_known_zero (known v) = is_zero v

-- a null pointer constant (6.3.2.3 paragraph 3): a constant integer expression of value 0, or such a one cast to void *, which
-- is the one constant that is the null pointer
abbrev pub is_null : TypedExpression → Bool
is_null g = is_known_zero g.constant

-- the constant of an integer; no other is part of a constant integer expression (6.6 paragraph 6)
abbrev pub integer_constant_if : Bool → Constant → Constant
integer_constant_if true c = c
integer_constant_if false c = not_constant

abbrev pub integer_constant : TypedExpression → Constant
integer_constant g = integer_constant_if (is_integer g.ctype) g.constant
