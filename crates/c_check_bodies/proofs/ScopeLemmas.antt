-- Scopes in which names were declared, and which are left.
use Rattle.std.proofs.Common.{◌≡◌, ℕ, suc, List, [], ◌∷◌, Result, Ok, Err, OnOk}
use Rattle.c_check_bodies.specs.Scoped.{Declares}
use Rattle.c_check_counts.specs.Bound.{Bound}
use Rattle.c_check_counts.specs.Environment.{Environment}

pub declared_one : {E : Type 0} (r : Result (Unit {0}) E) (old : Environment) (names : List Bound) (b : Bound) → OnOk r (names ≡ b ∷ old.names) → OnOk r (Declares old (record old { names = names }))
declared_one (Ok u) old names b h = (b ∷ [], λ i. record old { names = h i })
declared_one (Err e) old names b h = tt

pub names_left : (outer old : Environment) (names : List Bound) → Declares outer old → names ≡ outer.names → record old { names = names } ≡ outer
names_left outer old names d h = λ i. record (d.1 i) { names = h i }

pub block_left : (outer old : Environment) (names : List Bound) (depth : ℕ) → Declares (record outer { depth = suc outer.depth }) old → names ≡ outer.names → depth ≡ outer.depth → record old { names = names; depth = depth } ≡ outer
block_left outer old names depth d h k = λ i. record (d.1 i) { names = h i; depth = k i }
