use Rattle.std.proofs.Common.{◌≡◌, ◌++◌, take, flat_map}
use Rattle.model_picture.specs.Picture.{silent_arrow}
use Rattle.model_picture.proofs.edges.push_all_silent.Given as goal

abbrev pub invariant-loop-edge : goal.invariant-loop-edge
invariant-loop-edge l = l.text.items ≡ l.fn.text.items ++ flat_map silent_arrow (take l.edge-index l.edges)
