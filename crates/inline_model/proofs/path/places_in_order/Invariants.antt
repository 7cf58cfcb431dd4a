use Rattle.std.proofs.Common.{◌≡◌, take}
use Rattle.inline_model.specs.Places.{places_of}
use Rattle.inline_model.proofs.path.places_in_order.Given as goal

abbrev pub invariant-loop-frame : goal.invariant-loop-frame
invariant-loop-frame l = l.places.items ≡ places_of (take l.frame-index l.frames)
