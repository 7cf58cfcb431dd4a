-- Operators between two values (6.5.5 to 6.5.15).
use Rattle.std.specs.Prelude.{ℕ, neg_ℤ, Bool, true, false, ◌&&◌, if◌then◌else◌, nat_eq}
use Rattle.c_tree.specs.declared.value.IntType.{IntType}
use Rattle.c_tree.specs.declared.value.BinOp.{BinOp}
use Rattle.c_tree.specs.declared.value.BinOp.TheVariants.{Mul, Div, Rem, Add, Sub, ShiftLeft, ShiftRight, BitAnd, BitXor, BitOr, Less, Greater, LessEqual, GreaterEqual, Equal, NotEqual}
use Rattle.c_syntax.specs.TheConstants as punctuators
use Rattle.c_tree.specs.Tree.{CType, void, integer, pointer, arithmetic, comparison, pointer_add, pointer_diff, and, or, conditional}
use Rattle.c_tree.specs.Functions.{int}
use Rattle.c_tree.specs.Operands.{promoted, common, OperatorKind, balanced, shift, ordering, equality}
use Rattle.c_tree.specs.Operands.{kind_of as kind_of_operator}
use Rattle.c_rules.specs.Checked.{Checked, fine, fault, demand, on, gives, met}
use Rattle.c_rules.specs.Codes.{C3}
use Rattle.c_rules.specs.Types.{same_type, is_scalar, is_void}
use Rattle.c_rules.specs.Scopes.{Env}
use Rattle.c_rules.specs.TypedExpression.{TypedExpression, not_constant, typed_value, tree_of, is_null, integer_constant}
use Rattle.c_rules.specs.Constants.{constant_binary, constant_and, constant_or, constant_conditional, constant_moved}
use Rattle.c_rules.specs.Conversions.{Kind, an_integer, a_pointer, kind_of, complete, converted_to, null_of}

-- the operator that a punctuator is between two operands
abbrev pub operator_of_code : ℕ → BinOp
operator_of_code code =
    if nat_eq code punctuators.ASTERISK then Mul
    else if nat_eq code punctuators.SLASH then Div
    else if nat_eq code punctuators.PERCENT then Rem
    else if nat_eq code punctuators.PLUS then Add
    else if nat_eq code punctuators.MINUS then Sub
    else if nat_eq code punctuators.LEFT_SHIFT then ShiftLeft
    else if nat_eq code punctuators.RIGHT_SHIFT then ShiftRight
    else if nat_eq code punctuators.AMPERSAND then BitAnd
    else if nat_eq code punctuators.CARET then BitXor
    else if nat_eq code punctuators.BAR then BitOr
    else if nat_eq code punctuators.LESS then Less
    else if nat_eq code punctuators.GREATER then Greater
    else if nat_eq code punctuators.LESS_EQUAL then LessEqual
    else if nat_eq code punctuators.GREATER_EQUAL then GreaterEqual
    else if nat_eq code punctuators.EQUAL_EQUAL then Equal
    else NotEqual

-- ## Integers

-- two operands of one type, which the result has (6.5.5, 6.5.6, 6.5.10 to 6.5.12)
abbrev pub calculated : BinOp → IntType → TypedExpression → TypedExpression → TypedExpression
calculated op i a b =
    typed_value (integer i) (arithmetic (integer i) op (tree_of (converted_to i a)) (tree_of (converted_to i b)))
    (constant_binary op (converted_to i a).constant (converted_to i b).constant)

-- a shift has the promoted type of its left operand (6.5.7 paragraph 3)
abbrev pub shifted : BinOp → (i j : IntType) → TypedExpression → TypedExpression → TypedExpression
shifted op i j a b =
    typed_value (integer i) (arithmetic (integer i) op (tree_of (converted_to i a)) (tree_of (converted_to j b)))
    (constant_binary op (converted_to i a).constant (converted_to j b).constant)

-- two integers that are compared (6.5.8, 6.5.9)
abbrev pub compared_integers : BinOp → IntType → TypedExpression → TypedExpression → TypedExpression
compared_integers op i a b =
    typed_value int (comparison int op (tree_of (converted_to i a)) (tree_of (converted_to i b)))
    (constant_binary op (converted_to i a).constant (converted_to i b).constant)

-- two pointers that are compared, which is never constant
abbrev pub compared_pointers : BinOp → TypedExpression → TypedExpression → TypedExpression
compared_pointers op a b = typed_value int (comparison int op (tree_of a) (tree_of b)) not_constant

-- ## Pointers (6.5.6)

-- a pointer plus an integer, in the order of the text
abbrev pub pointer_plus : CType → TypedExpression → TypedExpression → TypedExpression
pointer_plus t p k =
    typed_value (pointer t) (pointer_add (pointer t) true false (tree_of p) (tree_of k)) (constant_moved p.constant (λ z. z) k.constant)

abbrev pub plus_pointer : CType → TypedExpression → TypedExpression → TypedExpression
plus_pointer t k p =
    typed_value (pointer t) (pointer_add (pointer t) false false (tree_of k) (tree_of p)) (constant_moved p.constant (λ z. z) k.constant)

-- a pointer minus an integer
abbrev pub pointer_minus : CType → TypedExpression → TypedExpression → TypedExpression
pointer_minus t p k =
    typed_value (pointer t) (pointer_add (pointer t) true true (tree_of p) (tree_of k)) (constant_moved p.constant (λ z. neg_ℤ z) k.constant)

-- the difference of two pointers (paragraph 9)
abbrev pub difference : TypedExpression → TypedExpression → TypedExpression
difference a b = typed_value int (pointer_diff int (tree_of a) (tree_of b)) not_constant

-- `+`: two integers, or a pointer to an object and an integer (paragraph 2)
abbrev pub sum_of : Env → (at : ℕ) → TypedExpression → TypedExpression → Kind → Kind → Checked TypedExpression
sum_of env at a b (an_integer i) (an_integer j) = fine (calculated Add (common i j) a b)
sum_of env at a b (a_pointer t) (an_integer j) = gives (complete env at t) (λ _. pointer_plus t a b)
sum_of env at a b (an_integer i) (a_pointer t) = gives (complete env at t) (λ _. plus_pointer t a b)
sum_of env at a b k l = fault C3 at

abbrev pub sum : Env → (at : ℕ) → TypedExpression → TypedExpression → Checked TypedExpression
sum env at a b = sum_of env at a b (kind_of a.ctype) (kind_of b.ctype)

-- `-`: two integers, a pointer to an object and an integer, or two pointers to objects of one type (paragraph 3)
abbrev pub minus_of : Env → (at : ℕ) → TypedExpression → TypedExpression → Kind → Kind → Checked TypedExpression
minus_of env at a b (an_integer i) (an_integer j) = fine (calculated Sub (common i j) a b)
minus_of env at a b (a_pointer t) (an_integer j) = gives (complete env at t) (λ _. pointer_minus t a b)
minus_of env at a b (a_pointer t) (a_pointer u) =
    on (demand (same_type t u) C3 at met) (λ _. gives (complete env at t) (λ _. difference a b))
minus_of env at a b k l = fault C3 at

-- ## Integers alone: `* / % & ^ |` and shifts

abbrev pub balanced_of : (at : ℕ) → BinOp → TypedExpression → TypedExpression → Kind → Kind → Checked TypedExpression
balanced_of at op a b (an_integer i) (an_integer j) = fine (calculated op (common i j) a b)
balanced_of at op a b k l = fault C3 at

abbrev pub shift_of : (at : ℕ) → BinOp → TypedExpression → TypedExpression → Kind → Kind → Checked TypedExpression
shift_of at op a b (an_integer i) (an_integer j) = fine (shifted op (promoted i) (promoted j) a b)
shift_of at op a b k l = fault C3 at

-- ## Comparisons

-- by order: two integers, or two pointers to objects of one type (6.5.8 paragraph 2)
abbrev pub ordered_of : Env → (at : ℕ) → BinOp → TypedExpression → TypedExpression → Kind → Kind → Checked TypedExpression
ordered_of env at op a b (an_integer i) (an_integer j) = fine (compared_integers op (common i j) a b)
ordered_of env at op a b (a_pointer t) (a_pointer u) =
    on (demand (same_type t u) C3 at met) (λ _. gives (complete env at t) (λ _. compared_pointers op a b))
ordered_of env at op a b k l = fault C3 at

-- Two operands that `==`, `!=` and `?:` take are made alike: two integers, two pointers of one type, or a pointer and a null
-- pointer constant (6.5.9 paragraph 2, 6.5.15 paragraphs 3 and 6).
pub data Alike : Type 0 where
  alike_integers : IntType → Alike
  alike_pointers : (left right : TypedExpression) → Alike
  unlike : Alike

abbrev pub pointers_alike : TypedExpression → TypedExpression → Alike
pointers_alike a b =
    if same_type a.ctype b.ctype then alike_pointers a b
    else if is_null a then alike_pointers (null_of b.ctype) b
    else if is_null b then alike_pointers a (null_of a.ctype)
    else unlike

abbrev pub alike_of : TypedExpression → TypedExpression → Kind → Kind → Alike
alike_of a b (an_integer i) (an_integer j) = alike_integers (common i j)
alike_of a b (a_pointer t) (a_pointer u) = pointers_alike a b
alike_of a b (a_pointer t) (an_integer j) = if is_null b then alike_pointers a (null_of a.ctype) else unlike
alike_of a b (an_integer i) (a_pointer u) = if is_null a then alike_pointers (null_of b.ctype) b else unlike
alike_of a b k l = unlike

abbrev pub alike : TypedExpression → TypedExpression → Alike
alike a b = alike_of a b (kind_of a.ctype) (kind_of b.ctype)

-- `==` and `!=` (6.5.9)
abbrev pub equality_of : (at : ℕ) → BinOp → TypedExpression → TypedExpression → Alike → Checked TypedExpression
equality_of at op a b (alike_integers i) = fine (compared_integers op i a b)
equality_of at op a b (alike_pointers x y) = fine (compared_pointers op x y)
equality_of at op a b unlike = fault C3 at

-- ## All of them

-- an operator whose operands have one type
abbrev pub arithmetic_of : Env → (at : ℕ) → BinOp → TypedExpression → TypedExpression → Checked TypedExpression
arithmetic_of env at Add a b = sum env at a b
arithmetic_of env at Sub a b = minus_of env at a b (kind_of a.ctype) (kind_of b.ctype)
arithmetic_of env at op a b = balanced_of at op a b (kind_of a.ctype) (kind_of b.ctype)

abbrev pub operation_of : Env → (at : ℕ) → BinOp → TypedExpression → TypedExpression → OperatorKind → Checked TypedExpression
operation_of env at op a b balanced = arithmetic_of env at op a b
operation_of env at op a b shift = shift_of at op a b (kind_of a.ctype) (kind_of b.ctype)
operation_of env at op a b ordering = ordered_of env at op a b (kind_of a.ctype) (kind_of b.ctype)
operation_of env at op a b equality = equality_of at op a b (alike a b)

abbrev pub operation : Env → (at : ℕ) → BinOp → TypedExpression → TypedExpression → Checked TypedExpression
operation env at op a b = operation_of env at op a b (kind_of_operator op)

-- ## && and || (6.5.13, 6.5.14)

abbrev pub both_scalars : TypedExpression → TypedExpression → Bool
both_scalars a b = is_scalar a.ctype && is_scalar b.ctype

abbrev pub conjunction : (at : ℕ) → TypedExpression → TypedExpression → Checked TypedExpression
conjunction at a b =
    demand (both_scalars a b) C3 at (typed_value int (and int (tree_of a) (tree_of b)) (constant_and (integer_constant a) (integer_constant b)))

abbrev pub disjunction : (at : ℕ) → TypedExpression → TypedExpression → Checked TypedExpression
disjunction at a b =
    demand (both_scalars a b) C3 at (typed_value int (or int (tree_of a) (tree_of b)) (constant_or (integer_constant a) (integer_constant b)))

-- ## ?: (6.5.15)

-- the two arms have this type
abbrev pub chosen : CType → TypedExpression → TypedExpression → TypedExpression → TypedExpression
chosen t c a b =
    typed_value t (conditional t (tree_of c) (tree_of a) (tree_of b))
    (constant_conditional (integer_constant c) (integer_constant a) (integer_constant b))

-- arms that are alike, or two voids
abbrev pub arms_of : (at : ℕ) → TypedExpression → TypedExpression → TypedExpression → Alike → Checked TypedExpression
arms_of at c a b (alike_integers i) = fine (chosen (integer i) c (converted_to i a) (converted_to i b))
arms_of at c a b (alike_pointers x y) = fine (chosen x.ctype c x y)
arms_of at c a b unlike = demand (is_void a.ctype && is_void b.ctype) C3 at (chosen void c a b)

abbrev pub choice : (at : ℕ) → TypedExpression → TypedExpression → TypedExpression → Checked TypedExpression
choice at c a b = on (demand (is_scalar c.ctype) C3 at met) (λ _. arms_of at c a b (alike a b))
