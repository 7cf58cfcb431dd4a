-- For private contracts and proofs alone: what is constant by its form, with a value or without one.
use Rattle.c_rules.specs.TypedExpression.{Constant, not_constant, undefined, known}

abbrev pub IsConst : Constant → Type 0
IsConst not_constant = ⊥
IsConst undefined = Unit {0}
IsConst (known x) = Unit {0}
