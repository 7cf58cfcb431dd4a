use Rattle.std.proofs.Common.{◌≡◌, ◌++◌, flat_map}
use Rattle.std.specs.List.{range_with_len}
use Rattle.model_picture.specs.Picture.{subgraph}
use Rattle.model_picture.proofs.functions.push_subgraphs.Given as goal

abbrev pub invariant-loop-number : goal.invariant-loop-number
invariant-loop-number l = l.text.items ≡ l.fn.text.items ++ flat_map (subgraph l.model) (range_with_len 0 l.number)
