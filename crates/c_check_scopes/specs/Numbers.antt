-- Names and strings as they are seen. For private contracts and proofs alone: how a map tells the first places of names.
use Rattle.std.specs.Prelude.{◌≡◌, ℕ, List, map, bytes_eq}
use Rattle.std.specs.Borrow.{Bor}
use Rattle.std.specs.HashMap.{HashMap, get_by}
use Rattle.c_rules.specs.Names.{number_among}

abbrev pub bytes_of : Bor (List ℕ) → List ℕ
bytes_of b = b.now

abbrev pub seen : List (Bor (List ℕ)) → List (List ℕ)
seen names = map bytes_of names

pub record AreNumbers {S : Type 0} (first : HashMap (Bor (List ℕ)) ℕ S) (names : List (Bor (List ℕ))) : Type 0 where
  pub finds : (x : List ℕ) → get_by (λ k. bytes_eq x k.now) first ≡ number_among (seen names) x
