-- Unary operators, sizeof and casts (6.5.3, 6.5.4).
use Rattle.std.specs.Prelude.{ℕ, ◌&&◌, ◌||◌, if◌then◌else◌, nat_eq, nat_le}
use Rattle.c_tree.specs.declared.value.IntType.{IntType}
use Rattle.c_tree.specs.declared.value.UnOp.{UnOp}
use Rattle.c_tree.specs.declared.value.UnOp.TheVariants.{Minus, Complement, Not}
use Rattle.c_syntax.specs.TheConstants.{ASTERISK, PLUS, MINUS, TILDE}
use Rattle.c_tree.specs.Tree.{CType, void, integer, pointer, array, address_of, discard, unary_operation}
use Rattle.c_tree.specs.Layout.{cells, sizeof}
use Rattle.c_tree.specs.Functions.{int}
use Rattle.c_tree.specs.Operands.{promoted}
use Rattle.c_rules.specs.Checked.{Checked, fine, fault, demand, on, met}
use Rattle.c_rules.specs.Codes.{C3, C4, C13}
use Rattle.c_rules.specs.Limits.{most_cells}
use Rattle.c_rules.specs.Types.{is_integer, is_function, is_scalar}
use Rattle.c_rules.specs.Scopes.{Env, layout_of}
use Rattle.c_rules.specs.TypedExpression.{Form, a_value, a_place, behind, TypedExpression, not_constant, typed_value, tree_of, is_place, is_null, integer_constant}
use Rattle.c_rules.specs.Constants.{constant_unary}
use Rattle.c_rules.specs.Conversions.{Kind, an_integer, kind_of, few_parts, complete, cast_to, converted_to, null_of}
use Rattle.c_rules.specs.PrimaryExpressions.{typed_unsigned}

-- ## Addresses (6.5.3.2)

-- what the operand is the address of; `&*p` is p, and `&a[i]` is a + i (paragraph 3)
abbrev pub address_of_form : (at : ℕ) → TypedExpression → Form → Checked TypedExpression
address_of_form at g (a_value e) = fault C3 at
address_of_form at g (a_place e) =
    demand (few_parts (pointer g.ctype)) C13 at (typed_value (pointer g.ctype) (address_of (pointer g.ctype) e) g.constant)
address_of_form at g (behind p) = fine (typed_value (pointer g.ctype) p g.constant)

-- a pointer to an array isn't in this profile
abbrev pub address_of_type : (at : ℕ) → TypedExpression → CType → Checked TypedExpression
address_of_type at g (array t n) = fault C3 at
address_of_type at g t = address_of_form at g g.form

-- `&` of a place or of a function
abbrev pub address : (at place : ℕ) → TypedExpression → Checked TypedExpression
address at place g = on (demand (is_place g || is_function g.ctype) C4 place met) (λ _. address_of_type at g g.ctype)

-- what a pointer leads to; a pointer to void leads to nothing (paragraphs 2 and 4)
abbrev pub led_to : (at : ℕ) → TypedExpression → CType → Checked TypedExpression
led_to at g (pointer void) = fault C3 at
led_to at g (pointer t) = fine (record { ctype = t; form = behind (tree_of g); constant = g.constant })
led_to at g t = fault C3 at

-- `*` of a pointer
abbrev pub indirection : (at : ℕ) → TypedExpression → Checked TypedExpression
indirection at g = led_to at g g.ctype

-- ## Arithmetic (6.5.3.3)

-- `+`
abbrev pub plus_of : (at : ℕ) → TypedExpression → Kind → Checked TypedExpression
plus_of at g (an_integer i) = fine (cast_to (promoted i) g)
plus_of at g k = fault C3 at

abbrev pub operated : UnOp → TypedExpression → IntType → TypedExpression
operated op g i = typed_value (integer i) (unary_operation (integer i) op (tree_of g)) (constant_unary op g.constant)

-- `-` and `~`
abbrev pub operator_of : (at : ℕ) → UnOp → TypedExpression → Kind → Checked TypedExpression
operator_of at op g (an_integer i) = fine (operated op (converted_to (promoted i) g) (promoted i))
operator_of at op g k = fault C3 at

-- `!`
abbrev pub negation : (at : ℕ) → TypedExpression → Checked TypedExpression
negation at g =
    demand (is_scalar g.ctype) C3 at (typed_value int (unary_operation int Not (tree_of g)) (constant_unary Not (integer_constant g)))

-- the operators with a value as their operand
abbrev pub unary_of_value : (at op : ℕ) → TypedExpression → Checked TypedExpression
unary_of_value at op g =
    if nat_eq op ASTERISK then indirection at g
    else if nat_eq op PLUS then plus_of at g (kind_of g.ctype)
    else if nat_eq op MINUS then operator_of at Minus g (kind_of g.ctype)
    else if nat_eq op TILDE then operator_of at Complement g (kind_of g.ctype)
    else negation at g

-- ## sizeof (6.5.3.4)

-- of a type of known size with few cells
abbrev pub size_of : Env → (at place : ℕ) → CType → Checked TypedExpression
size_of env at place t =
    on (complete env at t) (λ _. demand (nat_le (cells (layout_of env) t) most_cells) C13 place (typed_unsigned (sizeof (layout_of env) t)))

-- of an expression
abbrev pub size_of_expression : Env → (at : ℕ) → TypedExpression → Checked TypedExpression
size_of_expression env at g = size_of env at at g.ctype

-- of the name of a type at a place
abbrev pub size_of_type : Env → (at place : ℕ) → CType → Checked TypedExpression
size_of_type env at place t = size_of env at place t

-- ## Casts (6.5.4)

-- a cast to void, or of an integer to an integer type
abbrev pub cast_of : (at : ℕ) → CType → TypedExpression → Checked TypedExpression
cast_of at void g = fine (typed_value void (discard void (tree_of g)) not_constant)
cast_of at (integer i) g = demand (is_integer g.ctype) C3 at (cast_to i g)
cast_of at t g = fault C3 at

-- `(void *)` of a constant integer expression of value 0, which is a null pointer constant (6.3.2.3 paragraph 3)
abbrev pub null_cast : (at : ℕ) → TypedExpression → Checked TypedExpression
null_cast at g = demand (is_integer g.ctype && is_null g) C3 at (null_of (pointer void))
