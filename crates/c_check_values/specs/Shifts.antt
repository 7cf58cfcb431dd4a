-- For private contracts and proofs alone: the kind of shifts.
use Rattle.std.specs.Prelude.{Bool, true, false}
use Rattle.c_tree.specs.Operands.{OperatorKind, balanced, shift, ordering, equality}

abbrev pub shifts : OperatorKind → Bool
shifts balanced = false
shifts shift = true
shifts ordering = false
shifts equality = false
