use Rattle.std.proofs.Common.{◌≡◌, ◌++◌, take, flat_map}
use Rattle.model_picture.specs.Picture.{sys_arrow}
use Rattle.model_picture.proofs.edges.push_all_sys.Given as goal

abbrev pub invariant-loop-edge : goal.invariant-loop-edge
invariant-loop-edge l = l.text.items ≡ l.fn.text.items ++ flat_map sys_arrow (take l.edge-index l.edges)
