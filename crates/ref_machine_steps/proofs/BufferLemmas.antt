-- Lists that are made element by element.
use Rattle.std.proofs.Common.{List, ◌++◌, Option, Some, None}
use Rattle.c_tree.specs.declared.value.Value.{Value}
use Rattle.c_values.specs.Answers.{Answer, gives, and_then}

-- these, and then what the answer gives
abbrev pub onto : {A : Type 0} → List A → Answer (List A) → Answer (List A)
onto done a = and_then a (λ rest. gives (done ++ rest))

-- these cells, and then those before the first zero
abbrev pub after_cells : List Value → Option (List Value) → Option (List Value)
after_cells done None = None
after_cells done (Some vs) = Some (done ++ vs)
