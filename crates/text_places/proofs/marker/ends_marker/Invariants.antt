use Rattle.std.proofs.Common.{◌≡◌, length}
use Rattle.text_places.specs.Markers.{ends_marker}
use Rattle.text_places.proofs.marker.ends_marker.Given as goal

abbrev pub invariant-loop-more : goal.invariant-loop-more
invariant-loop-more l = ends_marker l.bytes ≡ ends_marker l.rest

abbrev pub decreases-loop-more : goal.decreases-loop-more
decreases-loop-more l = length l.rest
