-- Lemmas that several crates above use.
use Rattle.std.proofs.Common.{Contains, List, arith, refl, suc, ◌∷◌}

pub is_first : {X : Type 0} (x : X) (xs : List X) → Contains (x ∷ xs) x
is_first x xs = (0, omega arith, refl)

pub is_later : {X : Type 0} (x : X) (xs : List X) (z : X) → Contains xs z → Contains (x ∷ xs) z
is_later x xs z (k, lt, is) = (suc k, omega arith, is)
