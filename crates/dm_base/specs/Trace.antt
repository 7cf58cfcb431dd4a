-- Traces: the null calls left out, the bytes that were written, and how many calls are open.
use Rattle.std.specs.Prelude.{◌≡◌, ℕ, ◌+◌, ◌-◌, ◌≤◌, ℤ, pos, negsuc, List, [], ◌∷◌, ◌++◌, take, nat_eq, if◌then◌else◌}
use Rattle.std.specs.Ordering.{int_eq}
use Rattle.dm_base.specs.declared.event.Arg.{Arg}
use Rattle.dm_base.specs.declared.event.Arg.TheVariants as args
use Rattle.dm_base.specs.declared.event.Event.{Event}
use Rattle.dm_base.specs.declared.event.Event.TheVariants.{Sys, Pre, Post}

-- the trace without the null calls
abbrev pub erase : List Event → List Event
erase [] = []
erase (Sys name arguments outcome ∷ t) = Sys name arguments outcome ∷ erase t
erase (Pre site ∷ t) = erase t
erase (Post site ∷ t) = erase t

-- the first bytes, as many as the number says
abbrev pub front_of : ℤ → List ℕ → List ℕ
front_of (pos n) bytes = take n bytes
front_of (negsuc n) bytes = []

-- what a call of the system call `write`, number 1, with these arguments and this result put on descriptor 1
abbrev pub written_by : ℕ → List Arg → ℤ → List ℕ
written_by name (args.Int descriptor ∷ args.Bytes bytes ∷ []) outcome =
    if nat_eq name 1 then (if int_eq descriptor (pos 1) then front_of outcome bytes else []) else []
written_by name _ outcome = []

-- all bytes that the trace put on descriptor 1
abbrev pub output : List Event → List ℕ
output [] = []
output (Sys name arguments outcome ∷ t) = written_by name arguments outcome ++ output t
output (Pre site ∷ t) = output t
output (Post site ∷ t) = output t

-- how many events are Pre
abbrev pub opened : List Event → ℕ
opened [] = 0
opened (Sys name arguments outcome ∷ t) = opened t
opened (Pre site ∷ t) = opened t + 1
opened (Post site ∷ t) = opened t

-- how many events are Post
abbrev pub closed : List Event → ℕ
closed [] = 0
closed (Sys name arguments outcome ∷ t) = closed t
closed (Pre site ∷ t) = closed t
closed (Post site ∷ t) = closed t + 1

-- the greatest excess of the number of Pre over that of Post in any first part of the trace
abbrev pub depth : List Event → ℕ
depth [] = 0
depth (Sys name arguments outcome ∷ t) = depth t
depth (Pre site ∷ t) = depth t + 1
depth (Post site ∷ t) = depth t - 1

-- the number is the greatest excess of Pre over Post in a first part: no first part has more, and one has as many
pub record IsGreatestExcess (t : List Event) (n : ℕ) : Type 0 where
  pub most : (k : ℕ) → opened (take k t) ≤ closed (take k t) + n
  pub reached : (k : ℕ) × (opened (take k t) ≡ closed (take k t) + n)
