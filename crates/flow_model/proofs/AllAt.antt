-- Lemmas that several crates above use.
use Rattle.std.proofs.Common.{Contains, List, subst}
use Rattle.std.specs.Prelude.{All}

-- what holds of each item holds of one
pub all_at : {X : Type 0} (P : X → Type 0) (xs : List X) (x : X) → All P xs → Contains xs x → P x
all_at P xs x all (i, lt, is) = subst P is (all i x lt)
