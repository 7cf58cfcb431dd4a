use Rattle.std.proofs.Common.{◌≡◌, drop}
use Rattle.text_places.specs.Markers.{behind_margin}
use Rattle.text_places.proofs.marker.behind_margin.Given as goal

abbrev pub invariant-loop-i : goal.invariant-loop-i
invariant-loop-i l = behind_margin (drop l.i l.line) ≡ behind_margin l.line
