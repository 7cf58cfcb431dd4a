use Rattle.std.proofs.Common.{◌≡◌, ◌++◌, flat_map}
use Rattle.std.specs.List.{range_with_len}
use Rattle.model_picture.specs.Picture.{node_line}
use Rattle.model_picture.proofs.functions.push_nodes.Given as goal

abbrev pub invariant-loop-k : goal.invariant-loop-k
invariant-loop-k l = l.text.items ≡ l.fn.text.items ++ flat_map (node_line l.one) (range_with_len l.one.entry l.k)
