-- For private contracts and proofs alone: `& * e` where its value isn't wanted.
use Rattle.std.specs.Prelude.{ℕ, Bool, true, false}
use Rattle.c_syntax.specs.Tree.{Expr, unary}
use Rattle.null_calls_temporaries.specs.InstrumentedExpressions.{is_address_of_indirection}

-- whether an operator before the operand, and that of the operand, are left out
abbrev pub is_left_out : (wanted : Bool) → (op : ℕ) → Expr → Bool
is_left_out true op e = false
is_left_out false op (unary place inner e) = is_address_of_indirection op inner
is_left_out false op e = false
