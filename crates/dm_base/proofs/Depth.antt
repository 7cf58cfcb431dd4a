-- `depth` is the greatest excess of Pre over Post in a first part.
use Rattle.std.proofs.Common.{◌≡◌, ℕ, zero, suc, ◌+◌, ◌≤◌, List, [], ◌∷◌, take, refl, arith, ⊎_elim}
use Rattle.std.proofs.lemmas.Bool.{cases_lt}
use Rattle.dm_base.specs.declared.event.Event.{Event}
use Rattle.dm_base.specs.declared.event.Event.TheVariants.{Sys, Pre, Post}
use Rattle.dm_base.specs.Trace.{opened, closed, depth, IsGreatestExcess}

no_more : (t : List Event) (k : ℕ) → opened (take k t) ≤ closed (take k t) + depth t
no_more [] zero = omega arith
no_more [] (suc k) = omega arith
no_more (e ∷ t) zero = omega arith
no_more (Sys name arguments outcome ∷ t) (suc k) = no_more t k
no_more (Pre site ∷ t) (suc k) = omega (arith, no_more t k)
no_more (Post site ∷ t) (suc k) = omega (arith, no_more t k)

as_many : (t : List Event) → (k : ℕ) × (opened (take k t) ≡ closed (take k t) + depth t)
as_many [] = (0, refl)
as_many (Sys name arguments outcome ∷ t) = let rest = as_many t in (suc rest.0, rest.1)
as_many (Pre site ∷ t) = let rest = as_many t in (suc rest.0, omega (arith, rest.1))
as_many (Post site ∷ t) =
    let rest = as_many t in
    ⊎_elim (λ some. (suc rest.0, omega (arith, rest.1, some))) (λ none. (0, omega (arith, none))) (cases_lt 0 (depth t))

pub depth-greatest : (t : List Event) → IsGreatestExcess t (depth t)
depth-greatest t = record { most = no_more t; reached = as_many t }
