use Rattle.std.proofs.Common.{◌≡◌, min, take}
use Rattle.flow_graph.proofs.PartsLemmas.{weight}
use Rattle.flow_graph.proofs.width.+width.Given as goal

abbrev pub invariant-width_of_parts-loop-i : goal.invariant-width_of_parts-loop-i
invariant-width_of_parts-loop-i l = l.sum ≡ min (weight (take l.i l.parts)) l.most
