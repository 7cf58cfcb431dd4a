-- For private contracts and proofs alone: what an event does to the open sites.
use Rattle.std.specs.Prelude.{◌≡◌, ℕ, List, ◌∷◌}
use Rattle.dm_base.specs.declared.event.Event.{Event}
use Rattle.dm_base.specs.declared.event.Event.TheVariants.{Sys, Pre, Post}

-- how the open sites go on at an event
abbrev pub SitesGoOn : Event → List ℕ → List ℕ → Type 0
SitesGoOn (Sys name arguments outcome) y z = y ≡ z
SitesGoOn (Pre s) y z = s ∷ y ≡ z
SitesGoOn (Post s) y z = s ∷ z ≡ y

-- the event opens a site
abbrev pub OpensSite : Event → Type 0
OpensSite (Sys name arguments outcome) = ⊥
OpensSite (Pre s) = Unit {0}
OpensSite (Post s) = ⊥
