-- Assignments and steps (6.5.16, 6.5.2.4, 6.5.3.1), and the comma (6.5.17).
use Rattle.std.specs.Prelude.{ℕ, pos, Bool, true, false, List, [], ◌∷◌, if◌then◌else◌, nat_eq}
use Rattle.c_tree.specs.declared.value.IntType.{IntType}
use Rattle.c_tree.specs.declared.value.IntType.TheVariants as widths
use Rattle.c_tree.specs.declared.value.Value.TheVariants.{Int}
use Rattle.c_tree.specs.declared.value.BinOp.{BinOp}
use Rattle.c_tree.specs.declared.value.BinOp.TheVariants.{Mul, Div, Rem, Add, Sub, ShiftLeft, ShiftRight, BitAnd, BitXor, BitOr}
use Rattle.c_syntax.specs.TheConstants as punctuators
use Rattle.c_tree.specs.Tree.{CType, void, integer, Expr, Exprs, no_exprs, more_exprs, constant, assign, update, comma}
use Rattle.c_tree.specs.Functions.{int}
use Rattle.c_tree.specs.Operands.{promoted, common, OperatorKind, shift}
use Rattle.c_tree.specs.Operands.{kind_of as kind_of_operator}
use Rattle.c_tree.specs.Operators.{value_of}
use Rattle.c_rules.specs.Checked.{Checked, fine, fault, demand, on, gives, met}
use Rattle.c_rules.specs.Codes.{C3, C4}
use Rattle.c_rules.specs.Scopes.{Env}
use Rattle.c_rules.specs.TypedExpression.{TypedExpression, not_constant, typed_value, tree_of, is_place}
use Rattle.c_rules.specs.Conversions.{Kind, an_integer, a_pointer, kind_of, complete, converted_to, fits, assigned}

-- the operand of an assignment or a step designates an object
abbrev pub assignable : (at : ℕ) → TypedExpression → Checked TypedExpression
assignable at g = demand (is_place g) C4 at g

-- ## Simple assignment (6.5.16.1)

abbrev pub assignment : (at : ℕ) → TypedExpression → TypedExpression → Checked TypedExpression
assignment at p v =
    demand (fits p.ctype v) C3 at (typed_value p.ctype (assign p.ctype (tree_of p) (tree_of (assigned p.ctype v))) not_constant)

-- ## Compound assignment (6.5.16.2)

-- the operator that an assignment operator has
abbrev pub operator_of_assignment : ℕ → BinOp
operator_of_assignment code =
    if nat_eq code punctuators.ASSIGN_MULTIPLY then Mul
    else if nat_eq code punctuators.ASSIGN_DIVIDE then Div
    else if nat_eq code punctuators.ASSIGN_REMAINDER then Rem
    else if nat_eq code punctuators.ASSIGN_ADD then Add
    else if nat_eq code punctuators.ASSIGN_SUBTRACT then Sub
    else if nat_eq code punctuators.ASSIGN_LEFT_SHIFT then ShiftLeft
    else if nat_eq code punctuators.ASSIGN_RIGHT_SHIFT then ShiftRight
    else if nat_eq code punctuators.ASSIGN_AND then BitAnd
    else if nat_eq code punctuators.ASSIGN_XOR then BitXor
    else BitOr

-- the type in which the right side of an assignment to an integer stands: that of the operator; a shift is of the promoted left one
abbrev pub right_type : OperatorKind → (i j : IntType) → IntType
right_type shift i j = promoted j
right_type k i j = common i j

abbrev pub updated : BinOp → (old : Bool) → TypedExpression → Expr → TypedExpression
updated op old p e = typed_value p.ctype (update p.ctype op old (tree_of p) e) not_constant

-- `+` and `-`, which move pointers
abbrev pub moves : BinOp → Bool
moves Add = true
moves Sub = true
moves op = false

-- an integer takes an integer; a pointer to an object is moved by an integer (paragraphs 1 and 2)
abbrev pub update_of : Env → (at : ℕ) → BinOp → (old : Bool) → TypedExpression → TypedExpression → Kind → Kind → Checked TypedExpression
update_of env at op old p v (an_integer i) (an_integer j) =
    fine (updated op old p (tree_of (converted_to (right_type (kind_of_operator op) i j) v)))
update_of env at op old p v (a_pointer t) (an_integer j) =
    on (demand (moves op) C3 at met) (λ _. gives (complete env at t) (λ _. updated op old p (tree_of v)))
update_of env at op old p v k l = fault C3 at

abbrev pub compound_assignment : Env → (at : ℕ) → BinOp → TypedExpression → TypedExpression → Checked TypedExpression
compound_assignment env at op p v = update_of env at op false p v (kind_of p.ctype) (kind_of v.ctype)

-- an assignment with the operator of this number
abbrev pub assignment_by : Env → (at op : ℕ) → TypedExpression → TypedExpression → Checked TypedExpression
assignment_by env at op p v =
    if nat_eq op punctuators.ASSIGN then assignment at p v else compound_assignment env at (operator_of_assignment op) p v

-- ## Steps: a compound assignment of the constant 1 (6.5.3.1 paragraph 2, 6.5.2.4 paragraph 2)

-- the constant 1 in the type of the operator
abbrev pub one_for : Kind → TypedExpression
one_for (an_integer i) =
    typed_value (integer (common i widths.Int)) (constant (integer (common i widths.Int)) (value_of (common i widths.Int) (pos 1))) not_constant
one_for k = typed_value int (constant int (Int (pos 1))) not_constant

-- whether the value is the old one
abbrev pub step : Env → (at : ℕ) → BinOp → (old : Bool) → TypedExpression → Checked TypedExpression
step env at op old p = update_of env at op old p (one_for (kind_of p.ctype)) (kind_of p.ctype) (kind_of (one_for (kind_of p.ctype)).ctype)

-- ## The comma (6.5.17)

abbrev pub trees_of : List TypedExpression → Exprs
trees_of [] = no_exprs
trees_of (g ∷ gs) = more_exprs (tree_of g) (trees_of gs)

-- the type of the last one
abbrev pub last_type : CType → List TypedExpression → CType
last_type t [] = t
last_type t (g ∷ gs) = last_type g.ctype gs

abbrev pub comma_of : List TypedExpression → TypedExpression
comma_of gs = typed_value (last_type void gs) (comma (last_type void gs) (trees_of gs)) not_constant
