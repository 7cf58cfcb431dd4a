use Rattle.std.proofs.Common.{◌≡◌, map, take}
use Rattle.inline_model.specs.Places.{site_at}
use Rattle.inline_model.proofs.answer.sites_at.Given as goal

abbrev pub invariant-loop-place : goal.invariant-loop-place
invariant-loop-place l = l.sites.items ≡ map (site_at l.model) (take l.place-index l.places)
