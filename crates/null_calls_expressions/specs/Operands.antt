-- For private contracts and proofs alone: expressions with other operands.
use Rattle.c_syntax.specs.Tree.{Expr, member, postfix, prefix, sizeof, index, binary, assign}

-- a form with one operand, where it stands before or after an operator or before the name of a member
abbrev pub with_operand : Expr → (operand : Expr) → Expr
with_operand (member at how e x) f = member at how f x
with_operand (postfix at op e) f = postfix at op f
with_operand (prefix at sizeof e) f = f
with_operand (prefix at op e) f = prefix at op f
with_operand e f = f

-- a form with an operator between two operands
abbrev pub with_operands : Expr → (left right : Expr) → Expr
with_operands (index at e f) g h = index at g h
with_operands (binary at op e f) g h = binary at op g h
with_operands (assign at op e f) g h = assign at op g h
with_operands e g h = g
