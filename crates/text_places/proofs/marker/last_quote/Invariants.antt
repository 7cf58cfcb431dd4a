use Rattle.std.proofs.Common.{◌≡◌, take}
use Rattle.text_places.specs.Markers.{last_quote}
use Rattle.text_places.proofs.marker.last_quote.Given as goal

abbrev pub invariant-loop-i : goal.invariant-loop-i
invariant-loop-i l = l.last ≡ last_quote (take l.i l.bytes)
