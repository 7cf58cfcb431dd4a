-- How deep a trace is with one event more.
use Rattle.std.proofs.Common.{◌≡◌, ℕ, ◌+◌, ◌-◌, ◌≤◌, List, [], ◌∷◌, ◌++◌, ap, arith}
use Rattle.dm_base.specs.declared.event.Event.{Event}
use Rattle.dm_base.specs.declared.event.Event.TheVariants.{Sys, Pre, Post}
use Rattle.dm_base.specs.Trace.{opened, closed, depth}

-- an event that opens no call
pub depth-same : (t : List Event) (e : Event) → depth (e ∷ []) ≡ 0 → depth (t ++ e ∷ []) ≡ depth t
depth-same [] e none = none
depth-same (Sys name arguments outcome ∷ t) e none = depth-same t e none
depth-same (Pre site ∷ t) e none = ap (λ n. n + 1) (depth-same t e none)
depth-same (Post site ∷ t) e none = ap (λ n. n - 1) (depth-same t e none)

-- one more call is open: no more are than the number says
pub depth-few : (t : List Event) (s n : ℕ) → depth t ≤ n → opened t + 1 ≤ closed t + n → depth (t ++ Pre s ∷ []) ≤ n
depth-few [] s n few more = omega arith
depth-few (Sys name arguments outcome ∷ t) s n few more = depth-few t s n few more
depth-few (Pre site ∷ t) s n few more = omega (arith, depth-few t s (n - 1) (omega arith) (omega arith))
depth-few (Post site ∷ t) s n few more = omega (arith, depth-few t s (n + 1) (omega arith) (omega arith))

-- and no fewer than are open then
pub depth-many : (t : List Event) (s : ℕ) → opened t + 1 ≤ closed t + depth (t ++ Pre s ∷ [])
depth-many [] s = omega arith
depth-many (Sys name arguments outcome ∷ t) s = depth-many t s
depth-many (Pre site ∷ t) s = omega (arith, depth-many t s)
depth-many (Post site ∷ t) s = omega (arith, depth-many t s)

-- no fewer than are open
pub depth-open : (t : List Event) → opened t ≤ closed t + depth t
depth-open [] = omega arith
depth-open (Sys name arguments outcome ∷ t) = depth-open t
depth-open (Pre site ∷ t) = omega (arith, depth-open t)
depth-open (Post site ∷ t) = omega (arith, depth-open t)
