-- For private contracts and proofs alone: the end of a compound assignment.
use Rattle.std.specs.Prelude.{Bool}
use Rattle.c_tree.specs.declared.value.BinOp.{BinOp}
use Rattle.c_tree.specs.declared.value.Value.{Value}
use Rattle.c_tree.specs.Tree.{CType}
use Rattle.c_meaning.specs.Meaning.{either, updated}
use Rattle.c_meaning.specs.Pointers.{store_place}
use Rattle.c_meaning.specs.Results.{State, Result, then_do, answered, remembered}

-- the new value is computed and stored, once the right side has this value
abbrev pub renewing : BinOp → Bool → CType → CType → Value → Value → Value → State → Result Value
renewing op old t u q before v st =
    then_do (answered (updated op t u st.memory before v) st) (λ new st. remembered (store_place st.memory q new) (either old before new) st)
