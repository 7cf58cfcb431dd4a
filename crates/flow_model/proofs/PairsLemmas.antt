-- Lemmas that several crates above use.
use Rattle.std.proofs.Common.{All, AllPairs, Contains, List, [], arith, slice_index_or, subst, suc, ◌∷◌}
use Rattle.std.proofs.lemmas.List.Elements.{Contains-get_or}
use Rattle.std.proofs.lemmas.List.Kept.{AllPairs-cons}

pub all_from : {X : Type 0} (P : X → Type 0) (xs : List X) → ((z : X) → Contains xs z → P z) → All P xs
all_from P xs f k d lt = f (slice_index_or xs k d) (Contains-get_or xs k d lt)

pub of_all : {X : Type 0} (P : X → Type 0) (xs : List X) → All P xs → (z : X) → Contains xs z → P z
of_all P xs all z (k, lt, is) = subst P is (all k z lt)

pub pairs_cons : {X : Type 0} (R : X → X → Type 0) (x : X) (xs : List X) → ((z : X) → Contains xs z → R x z) → AllPairs R xs → AllPairs R (x ∷ xs)
pairs_cons R x xs f pairs = AllPairs-cons R x xs (all_from (R x) xs f) pairs

pub pairs_head : {X : Type 0} (R : X → X → Type 0) (x : X) (xs : List X) → AllPairs R (x ∷ xs) → (z : X) → Contains xs z → R x z
pairs_head R x xs pairs z (k, lt, is) = subst (λ y. R x y) is (pairs 0 (suc k) z (omega arith) (omega (arith, lt)))

pub pairs_tail : {X : Type 0} (R : X → X → Type 0) (x : X) (xs : List X) → AllPairs R (x ∷ xs) → AllPairs R xs
pairs_tail R x xs pairs i j d lt within = pairs (suc i) (suc j) d (omega (arith, lt)) (omega (arith, within))

pub pairs_nil : {X : Type 0} (R : X → X → Type 0) → AllPairs R []
pairs_nil R i j d lt within = absurd (omega (arith, within))
